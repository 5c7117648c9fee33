-- Private steps, which no public clause cites: the lists of a comparison.
use Rattle.std.specs.Prelude.{ℕ}
use Rattle.acl_queries.specs.Compared.{Compared}
use Rattle.acl_bridge.specs.declared.any_acl.AnyAcl.{AnyAcl}

-- two lists for a file of this owner and this group
abbrev pub between : ℕ → ℕ → AnyAcl → AnyAcl → Compared
between owner group first second = record {
  owner = owner;
  group = group;
  first = first;
  second = second;
}

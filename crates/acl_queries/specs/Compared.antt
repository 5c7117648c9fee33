-- Which lists the fields of `compare` give, read one by one.
use Rattle.std.specs.Prelude.{ℕ, List, Result, Ok, codes}
use Rattle.clap.specs.Words.{Row}
use Rattle.acl_names.specs.Steps.{◌>>=◌}
use Rattle.acl_cli.specs.Fields.{id_in}
use Rattle.acl_queries.specs.ListField.{list_in}
use Rattle.acl_bridge.specs.declared.any_acl.AnyAcl.{AnyAcl}
use Rattle.acl_cli.specs.Faults.{Malformed}

-- two lists, compared for a file of this owner and this group
pub record Compared : Type 0 where
  pub owner : ℕ
  pub group : ℕ
  pub first : AnyAcl
  pub second : AnyAcl

-- what is compared, or the fault of the first field that is malformed, in this order
unfoldable pub compared_in : List Row → Result Compared Malformed
compared_in rows = do
  owner ← id_in (codes "owner") rows
  group ← id_in (codes "group") rows
  first ← list_in (codes "style") (codes "text") rows
  second ← list_in (codes "other-style") (codes "other-text") rows
  Ok (record { owner = owner; group = group; first = first; second = second })

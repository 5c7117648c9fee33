use Rattle.std.proofs.Common.{◌≡◌, drop, length, map, string_bytes}
use Rattle.std.specs.List.{position_from}
use Rattle.std.specs.Prelude.{not}
use Rattle.acl_setup.specs.PartsKeys.{has_name, unknown_in}
use Rattle.acl_setup.proofs.parts.UnknownGroupFinder.find.Given as goal

-- the groups so far are known
abbrev pub invariant-loop-index : goal.invariant-loop-index
invariant-loop-index l = record {
  left : position_from (λ name. not (has_name l.self.groups.now name)) l.index (map string_bytes (drop l.index l.groups))
      ≡ unknown_in l.self.groups.now (map string_bytes l.groups);
  all : l.index-end ≡ length l.groups;
}

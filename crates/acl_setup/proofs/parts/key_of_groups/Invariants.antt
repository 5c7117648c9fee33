use Rattle.std.proofs.Common.{◌≡◌, drop, length}
use Rattle.acl_setup.specs.PartsKeys.{key_of_groups}
use Rattle.acl_setup.proofs.parts.key_of_groups.Given as goal

-- no group of the users so far is at fault
abbrev pub invariant-loop-index : goal.invariant-loop-index
invariant-loop-index g l = record {
  left : key_of_groups (g.F.GroupFinder.find l.finder) l.index (drop l.index l.users) ≡ key_of_groups (g.F.GroupFinder.find l.finder) 0 l.users;
  all : l.index-end ≡ length l.users;
}

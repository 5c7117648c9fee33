use Rattle.std.proofs.Common.{◌≡◌, take}
use Rattle.acl_names.specs.Named.{ids_with_places}
use Rattle.acl_names.proofs.directory.named.ids_with_places.Given as goal

-- the entries of the members that were passed
abbrev pub invariant-loop-member : goal.invariant-loop-member
invariant-loop-member g l = l.entries.items ≡ ids_with_places g.T.Named.id_of (take l.member-index l.members)

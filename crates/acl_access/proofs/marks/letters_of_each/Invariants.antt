use Rattle.std.proofs.Common.{◌≡◌, map, take}
use Rattle.acl_bridge.specs.Files.{view_acl}
use Rattle.acl_access.proofs.marks.letters_of_each.Given as goal

-- those of the requesters so far
abbrev pub invariant-loop-requester : goal.invariant-loop-requester
invariant-loop-requester g l = map g.L.LetterSet.number l.letters.items ≡ map (g.L.LetterSet.granted (view_acl l.file)) (take l.requester-index l.requesters)

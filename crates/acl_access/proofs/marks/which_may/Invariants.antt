use Rattle.std.proofs.Common.{◌≡◌, map, take}
use Rattle.acl_posix.specs.Perms.{bits_of}
use Rattle.acl_bridge.specs.Files.{may, view_acl}
use Rattle.acl_access.proofs.marks.which_may.Given as goal

-- those of the requesters so far
abbrev pub invariant-loop-requester : goal.invariant-loop-requester
invariant-loop-requester l = l.which.items ≡ map (λ who. may (view_acl l.file) who (bits_of l.perms)) (take l.requester-index l.requesters)

use Rattle.std.proofs.Common.{◌≡◌, take}
use Rattle.acl_posix.specs.Perms.{bits_of}
use Rattle.acl_bridge.specs.Files.{may, view_acl}
use Rattle.acl_access.specs.Marks.{places_from}
use Rattle.acl_access.proofs.marks.places_of_those_who_may.Given as goal

-- the places among the requesters so far
abbrev pub invariant-loop-place : goal.invariant-loop-place
invariant-loop-place l = l.places.items ≡ places_from (λ who. may (view_acl l.file) who (bits_of l.perms)) 0 (take l.place l.requesters)

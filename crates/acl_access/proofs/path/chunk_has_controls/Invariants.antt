use Rattle.std.proofs.Common.{◌≡◌, take}
use Rattle.std.specs.List.{list_any}
use Rattle.acl_access.specs.Paths.{is_control}
use Rattle.acl_access.proofs.path.chunk_has_controls.Given as goal

-- whether one of the bytes so far is one
abbrev pub invariant-loop-byte : goal.invariant-loop-byte
invariant-loop-byte l = l.found ≡ list_any is_control (take l.byte-index l.bytes)

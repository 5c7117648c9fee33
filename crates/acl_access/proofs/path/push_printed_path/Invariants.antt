use Rattle.std.proofs.Common.{◌≡◌, ◌++◌, take}
use Rattle.acl_access.specs.Paths.{printed_path}
use Rattle.acl_access.proofs.path.push_printed_path.Given as goal

-- what was printed is that of the bytes so far
abbrev pub invariant-loop-byte : goal.invariant-loop-byte
invariant-loop-byte l = l.out.items ≡ l.fn.out.items ++ printed_path (take l.byte-index l.path)

use Rattle.std.proofs.Common.{◌≡◌, ◌++◌, take, length}
use Rattle.acl_accounts.specs.Names.{quoted}
use Rattle.acl_accounts.proofs.quoting.push_quoted.Given as goal

-- what was printed is the bytes so far
abbrev pub invariant-loop-byte : goal.invariant-loop-byte
invariant-loop-byte l = record {
  text : l.out.items ≡ l.fn.out.items ++ quoted (take l.byte-index l.name);
  kept : take (length l.fn.out.items) l.out.items ≡ l.fn.out.items;
}

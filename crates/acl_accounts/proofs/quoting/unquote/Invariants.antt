use Rattle.std.proofs.Common.{◌≡◌, ◌++◌, length}
use Rattle.acl_accounts.specs.Names.{unquoted}
use Rattle.acl_accounts.proofs.quoting.unquote.Given as goal

-- what was read, and what the rest says, is what the text says
abbrev pub invariant-loop-byte : goal.invariant-loop-byte
invariant-loop-byte l = record {
  text : l.room.items ++ unquoted l.rest ≡ unquoted l.text;
}

abbrev pub decreases-loop-byte : goal.decreases-loop-byte
decreases-loop-byte l = length l.rest

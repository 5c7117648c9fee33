use Rattle.std.proofs.Common.{◌≡◌, ◌++◌, length}
use Rattle.acl_accounts.specs.Names.{unquoted}
use Rattle.acl_listing_translation.proofs.escapes.push_unescaped.Given as goal

-- what was put, and what the rest says, is what the path says
abbrev pub invariant-loop-byte : goal.invariant-loop-byte
invariant-loop-byte l = record {
  text : l.out.items ++ unquoted l.rest ≡ l.fn.out.items ++ unquoted l.path;
}

abbrev pub decreases-loop-byte : goal.decreases-loop-byte
decreases-loop-byte l = length l.rest

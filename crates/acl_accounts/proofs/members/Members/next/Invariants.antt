use Rattle.std.proofs.Common.{◌≡◌, length}
use Rattle.acl_accounts.specs.Rows.{members_of_parts}
use Rattle.acl_accounts.proofs.members.Members.next.Given as goal

abbrev pub invariant-loop-name : goal.invariant-loop-name
invariant-loop-name l = members_of_parts l.self-inside.parts ≡ l.fn.self

abbrev pub decreases-loop-name : goal.decreases-loop-name
decreases-loop-name l = length l.self-inside.parts

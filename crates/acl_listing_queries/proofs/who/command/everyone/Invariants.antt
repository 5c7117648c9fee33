use Rattle.std.proofs.Common.{take}
use Rattle.acl_listing_queries.specs.WhoSteps.{IsEveryone}
use Rattle.acl_listing_queries.proofs.who.command.everyone.Given as goal

-- of those so far
abbrev pub invariant-loop-requester : goal.invariant-loop-requester
invariant-loop-requester l = IsEveryone (take l._requester-index l.requesters) l.marks.items

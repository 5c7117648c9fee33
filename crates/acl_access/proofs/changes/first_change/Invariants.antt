use Rattle.std.proofs.Common.{drop}
use Rattle.acl_access.specs.ListSteps.{grants_after, grants_before}
use Rattle.acl_access.proofs.ChangesLeft.{AreLeft}
use Rattle.acl_access.proofs.changes.first_change.Given as goal

-- the requests so far are granted alike
abbrev pub invariant-loop-request : goal.invariant-loop-request
invariant-loop-request g l =
    AreLeft (grants_before l.lists) (grants_after l.lists) (g.S.Subject.identity l.subject) l.requests (drop l.request-index l.requests)

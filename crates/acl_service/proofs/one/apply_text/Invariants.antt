use Rattle.std.proofs.Common.{◌≡◌, length}
use Rattle.acl_lang.specs.Texts.{requests_of}
use Rattle.acl_service.specs.Runs.{tree_after}
use Rattle.acl_service.proofs.one.apply_text.Given as goal

-- what the requests that are left leave, all of them leave
abbrev pub invariant-loop : goal.invariant-loop
invariant-loop l = tree_after l.directory l.tree l.requests ≡ tree_after l.directory l.fn.tree (requests_of l.directory l.text)

abbrev pub decreases-loop : goal.decreases-loop
decreases-loop l = length l.requests

use Rattle.std.proofs.Common.{◌∙◌, ap, false, unwrap_or}
use Rattle.acl_listing_lint.proofs.deletions.allows.Goals as goal

pub returns : goal.returns
returns c = λ place is. c.unwrap_or.ensures ∙ ap (λ said. unwrap_or said false) (c.verdict.ensures place is)

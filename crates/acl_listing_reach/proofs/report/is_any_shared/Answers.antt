use Rattle.std.proofs.Common.{◌∙◌, sym}
use Rattle.acl_listing_reach.specs.Once.{has_path}
use Rattle.acl_listing_reach.proofs.ReportLemmas.{any_here, any_more}
use Rattle.acl_listing_reach.proofs.report.is_any_shared.Goals as goal

pub returns-then-is_shared_at : goal.returns-then-is_shared_at
returns-then-is_shared_at c =
    sym (c.loop-place.invariant ∙ any_here (λ at. has_path at.path c.args.before.now) c.loop-place.place c.args.after.now (sym c.is_shared_at.ensures ∙ c.if-is_shared_at.true))

pub loop-place-preserved : goal.loop-place-preserved
loop-place-preserved c =
    c.loop-place.invariant ∙ any_more (λ at. has_path at.path c.args.before.now) c.loop-place.place c.args.after.now (sym c.is_shared_at.ensures ∙ c.if-is_shared_at.false)

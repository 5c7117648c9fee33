use Rattle.std.proofs.Common.{◌≡◌, ◌∙◌, ap, map, subst, sym}
use Rattle.std.proofs.Math.Logic.{⊎_map}
use Rattle.std.proofs.lemmas.Result.{IfOk-weaker, on_err_weaker}
use Rattle.acl_listings.specs.Cursor.{blocks_to_come}
use Rattle.acl_listing_changes.specs.Changes.{IsChangeAnswer, IsChangeBegun}
use Rattle.acl_listing_changes.specs.Kept.{AreAll, block_of}
use Rattle.acl_listing_changes.proofs.ComesLemmas.{front_all, went_all}
use Rattle.acl_listing_changes.proofs.between.changes.report_both.Goals as goal

pub returns-clause-answered : goal.returns-clause-answered
returns-clause-answered g c =
    let wording = g.C.ChangeReporter.wording c.args.reporter.now in
    let bytes = g.B.Read.remaining c.args.before.1 in
    let others = g.A.Read.remaining c.args.after.1 in
    let kept : c.in_ok-kept.kept ≡ map block_of c.in_ok-blocks.blocks.items = c.in_ok-kept.ensures ∙ ap (map block_of) c.as_slice.ensures.value in
    let are : AreAll (blocks_to_come 1 bytes) c.in_ok-kept.kept = subst (AreAll (blocks_to_come 1 bytes)) (sym kept) c.in_ok-blocks.ensures.kept in
    IfOk-weaker c.report_changes.result _ _
    (λ ending went. went_all (IsChangeAnswer wording) c.args.before.0.now bytes c.args.after.0.now others c.in_ok-kept.kept are ending _ _ _ _ went) c.report_changes.ensures.answered

pub returns-clause-cut : goal.returns-clause-cut
returns-clause-cut g c =
    let wording = g.C.ChangeReporter.wording c.args.reporter.now in
    let bytes = g.B.Read.remaining c.args.before.1 in
    let others = g.A.Read.remaining c.args.after.1 in
    let kept : c.in_ok-kept.kept ≡ map block_of c.in_ok-blocks.blocks.items = c.in_ok-kept.ensures ∙ ap (map block_of) c.as_slice.ensures.value in
    let are : AreAll (blocks_to_come 1 bytes) c.in_ok-kept.kept = subst (AreAll (blocks_to_come 1 bytes)) (sym kept) c.in_ok-blocks.ensures.kept in
    on_err_weaker c.report_changes.result
    (⊎_map (λ none. none) (front_all (IsChangeBegun wording) c.args.before.0.now bytes c.args.after.0.now others c.in_ok-kept.kept are _ _ _ _)) c.report_changes.ensures.cut

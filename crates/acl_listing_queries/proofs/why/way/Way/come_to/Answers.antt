use Rattle.std.proofs.Common.{◌≡◌, ◌∙◌, IfErr, IfOk, List, None, ap, cond, false, refl, reverse, subst, sym, true}
use Rattle.std.proofs.lemmas.List.{reverse-reverse}
use Rattle.std.proofs.lemmas.Result.{IfOk-weaker}
use Rattle.acl_listing_queries.specs.Readings.{Reading}
use Rattle.acl_listing_queries.specs.Ways.{begins_apart, chain_to, way_of}
use Rattle.acl_listing_queries.specs.WhySteps.{IsUnknown, IsWayReported, asked_by, readings_of}
use Rattle.acl_listing_queries.specs.WhyText.{WhyAsking}
use Rattle.acl_listing_queries.proofs.ReachSteps.{known_if_lost}
use Rattle.acl_listing_queries.proofs.why.way.Way.come_to.Goals as goal

pub returns-then-self-clause-refused : goal.returns-then-self-clause-refused
returns-then-self-clause-refused c = λ earlier here was is.
    (known_if_lost earlier here (sym was.lost ∙ c.if-self.true), refl)

pub returns-then-not-branch-clause-refused : goal.returns-then-not-branch-clause-refused
returns-then-not-branch-clause-refused c = λ earlier here was is.
    let apart : begins_apart earlier here ≡ false = sym (c.in_ok-come_to.ensures.apart earlier here (was.begun c.if-self.false) (sym was.lost ∙ c.if-self.false) is) ∙ c.if-not-branch.true in
    (ap (λ b. cond b (chain_to (way_of earlier here) here) None) apart, refl)

pub returns-clause-reported : goal.returns-clause-reported
returns-clause-reported c = λ earlier here was is.
    let asking : WhyAsking = asked_by c.args.question.now in
    let way_is : reverse (readings_of asking.names c.as_slice.result.now) ≡ way_of earlier here =
    ap (λ (texts : _). reverse (readings_of asking.names texts)) c.as_slice.ensures.value ∙ ap reverse (was.folders c.if-self.false here is) ∙ reverse-reverse (way_of earlier here) in
    subst (λ (way : List Reading). IfOk c.report_folders.result (IsWayReported asking way here)) way_is (c.report_folders.ensures.reported here is)

pub returns-clause-refused : goal.returns-clause-refused
returns-clause-refused c = λ earlier here was is.
    let asking : WhyAsking = asked_by c.args.question.now in
    let way_is : reverse (readings_of asking.names c.as_slice.result.now) ≡ way_of earlier here =
    ap (λ (texts : _). reverse (readings_of asking.names texts)) c.as_slice.ensures.value ∙ ap reverse (was.folders c.if-self.false here is) ∙ reverse-reverse (way_of earlier here) in
    let apart : begins_apart earlier here ≡ true = sym (c.in_ok-come_to.ensures.apart earlier here (was.begun c.if-self.false) (sym was.lost ∙ c.if-self.false) is) ∙ c.if-not-branch.false in
    subst (λ known. IfErr c.report_folders.result (IsUnknown known)) (sym (ap (λ b. cond b (chain_to (way_of earlier here) here) None) apart))
    (subst (λ (way : List Reading). IfErr c.report_folders.result (IsUnknown (chain_to way here))) way_is (c.report_folders.ensures.refused here is))

pub returns-clause-apart : goal.returns-clause-apart
returns-clause-apart c = λ earlier here was is.
    let apart : begins_apart earlier here ≡ true = sym (c.in_ok-come_to.ensures.apart earlier here (was.begun c.if-self.false) (sym was.lost ∙ c.if-self.false) is) ∙ c.if-not-branch.false in
    IfOk-weaker c.report_folders.result _ _ (λ folders reported. apart) (c.report_folders.ensures.reported here is)

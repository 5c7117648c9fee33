use Rattle.std.proofs.Common.{◌∙◌, ◌≤◌, ◌+◌, [], ap, append-nil, arith, length, sym}
use Rattle.std.specs.Prelude.{slice_get}
use Rattle.std.specs.Option.{option_map_or}
use Rattle.acl_listing_reach.specs.ReachText.{after_text, gone_text}
use Rattle.acl_listing_reach.specs.ReportSteps.{left_text}
use Rattle.acl_listing_reach.specs.Asking.{asking_by}
use Rattle.acl_listing_reach.specs.declared.report.Stage.TheVariants as stage
use Rattle.acl_listing_reach.proofs.ReportLemmas.{left_after, left_between, left_gone, reported_step}
use Rattle.acl_listing_reach.proofs.report.ReportReporting.report_next.Goals as goal

pub returns-then-place-len-clause-reported : goal.returns-then-place-len-clause-reported
returns-then-place-len-clause-reported c =
    let asking = asking_by c.args.self.now.asking in
    let before = c.args.self.now.before.now in
    let after = c.args.self.now.after.now in
    let place = c.in-After.place in
    let out = c.args.out.now.items in
    let past : length after ≤ place = omega (arith, c.if-place-len.true, c.len.ensures) in
    reported_step (left_text asking before after c.args.self.now.stage) [] (left_text asking before after (stage.Gone 0))
    (ap (left_text asking before after) c.in-After.is ∙ left_between asking before after place past) out out c.args._beside.now.items (sym (append-nil out))

pub returns-in_ok-push_after-in-After-clause-reported : goal.returns-in_ok-push_after-in-After-clause-reported
returns-in_ok-push_after-in-After-clause-reported c =
    let asking = asking_by c.args.self.now.asking in
    let before = c.args.self.now.before.now in
    let after = c.args.self.now.after.now in
    let place = c.in-After.place in
    reported_step (left_text asking before after c.args.self.now.stage) (option_map_or (after_text asking before) (slice_get after place) []) (left_text asking before after (stage.After (place + 1)))
    (ap (left_text asking before after) c.in-After.is ∙ left_after asking before after place) c.args.out.now.items c.push_after.new.out.items c.args._beside.now.items c.in_ok-push_after-in-After.ensures

pub returns-in_ok-push_gone-in-Gone-clause-reported : goal.returns-in_ok-push_gone-in-Gone-clause-reported
returns-in_ok-push_gone-in-Gone-clause-reported c =
    let asking = asking_by c.args.self.now.asking in
    let before = c.args.self.now.before.now in
    let after = c.args.self.now.after.now in
    let place = c.in-Gone.place in
    reported_step (left_text asking before after c.args.self.now.stage) (option_map_or (gone_text asking after) (slice_get before place) []) (left_text asking before after (stage.Gone (place + 1)))
    (ap (left_text asking before after) c.in-Gone.is ∙ left_gone asking before after place) c.args.out.now.items c.push_gone.new.out.items c.args._beside.now.items c.in_ok-push_gone-in-Gone.ensures

use Rattle.std.proofs.Common.{rules, ◌≡◌, ◌∙◌, ◌&&◌, ap, length, refl, subst, sym}
use Rattle.std.proofs.Math.Seq.{take-length}
use Rattle.std.specs.Io.KnownBytes.{Appends}
use Rattle.acl_cli.specs.Commands.{FrontWentOut}
use Rattle.acl_cli.specs.declared.command.Ending.{Ending}
use Rattle.acl_reports.specs.Endings.{ending_of_both, with_difference}
use Rattle.acl_reports.specs.Listed.{ending_of}
use Rattle.acl_reports.proofs.BlocksLemmas.{front_out}
use Rattle.acl_listing_changes.specs.ChangeSteps.{AreKnown, Left, nothing_seen}
use Rattle.acl_listing_changes.specs.Changes.{IsChangeBegun, Named, OfAfter}
use Rattle.acl_listing_changes.specs.declared.between.progress.Stage.TheVariants as stage
use Rattle.acl_listing_changes.proofs.ChangeLemmas.{answers_changes, begins_changes, begins_reported, ended_gone}
use Rattle.acl_listing_changes.proofs.between.changes.report_changes.Goals as goal

pub returns-in_err-some-clause-cut : goal.returns-in_err-some-clause-cut
returns-in_err-some-clause-cut g c =
    let wording = g.C.ChangeReporter.wording c.args.reporter.now in
    let before : Named = record { name = c.args.name.now; blocks = c.args.before.now } in
    let other = c.args.other.now in
    let bytes = g.A.Read.remaining c.args.after in
    let opening = c.in_ok-opening.opening in
    let seen_is : c.in_ok-seen.seen ≡ nothing_seen (length before.blocks) = c.in_ok-seen.ensures ∙ ap nothing_seen c.len.ensures in
    let (text, said, begun, front, reports) = c.in_err-some.ensures.cut in
    let went : FrontWentOut (OfAfter (IsChangeBegun wording) before other bytes) (g.W.Write.contents c.args.out.now) (g.W.Write.contents c.report_each.new.out) c.args.err.now c.report_each.new.err =
    front_out (OfAfter (IsChangeBegun wording) before other bytes) _ _ _ _ text said
    (begins_changes wording before other opening.said.items opening.counts.tally opening.counts.strangers c.in_ok-opening.ensures.said c.in_ok-seen.seen c.in_ok-blocks.blocks.block c.in_ok-blocks.blocks.coming seen_is bytes
    c.in_ok-blocks.ensures.blocks text said begun) front reports in
    search (rules, went)

pub returns-in-Gone-clause-answered : goal.returns-in-Gone-clause-answered
returns-in-Gone-clause-answered g c =
    let wording = g.C.ChangeReporter.wording c.args.reporter.now in
    let before : Named = record { name = c.args.name.now; blocks = c.args.before.now } in
    let other = c.args.other.now in
    let bytes = g.A.Read.remaining c.args.after in
    let opening = c.in_ok-opening.opening in
    let seen_is : c.in_ok-seen.seen ≡ nothing_seen (length before.blocks) = c.in_ok-seen.ensures ∙ ap nothing_seen c.len.ensures in
    let (text, said, reported, went, reports, some_is) = c.in_ok-some.ensures.written in
    let last : Left = c.report_each.new.reporting.progress in
    let place = c.in-Gone.field-0 in
    let gone : last.stage ≡ stage.Gone place = search rules in
    let second : c.ending-second.result ≡ ending_of last.seen.tally = c.ending-second.ensures in
    let ends = c.in_ok-some.ensures.ends c.ending-second.result (ended_gone (g.C.ChangeReporter.wording c.report_each.new.reporting.sides.reporter.now) c.report_each.new.reporting.sides.before.now last place gone c.ending-second.result second) in
    let ending : c.with_difference.result ≡ with_difference (wording.asks && c.in_ok-some.some) (ending_of_both (ending_of opening.counts.tally) c.ending-second.result) =
    c.with_difference.ensures
    ∙ ap (λ asks. with_difference (asks && c.in_ok-some.some) c.ending_of_both-ending.result) c.asks-asks.ensures
    ∙ ap (with_difference (wording.asks && c.in_ok-some.some)) (c.ending_of_both-ending.ensures ∙ ap (λ (first : Ending). ending_of_both first c.ending-second.result) c.ending-first.ensures) in
    record {
      answer = record { text = text; beside = said; ending = c.with_difference.result };
      is = answers_changes wording before other opening.said.items opening.counts.tally opening.counts.strangers c.in_ok-opening.ensures.said c.in_ok-seen.seen c.in_ok-blocks.blocks.block c.in_ok-blocks.blocks.coming seen_is bytes
          c.in_ok-blocks.ensures.blocks text said reported c.ending-second.result c.with_difference.result ends c.in_ok-some.some some_is ending;
      ends = refl;
      text = went;
      beside = reports;
    }

pub returns-clause-cut : goal.returns-clause-cut
returns-clause-cut g c =
    let wording = g.C.ChangeReporter.wording c.args.reporter.now in
    let before : Named = record { name = c.args.name.now; blocks = c.args.before.now } in
    let other = c.args.other.now in
    let bytes = g.A.Read.remaining c.args.after in
    let opening = c.in_ok-opening.opening in
    let seen_is : c.in_ok-seen.seen ≡ nothing_seen (length before.blocks) = c.in_ok-seen.ensures ∙ ap nothing_seen c.len.ensures in
    let (text, said, reported, went, reports, some_is) = c.in_ok-some.ensures.written in
    let begun = begins_reported wording before other opening.said.items opening.counts.tally opening.counts.strangers c.in_ok-opening.ensures.said c.in_ok-seen.seen c.in_ok-blocks.blocks.block c.in_ok-blocks.blocks.coming seen_is bytes
    c.in_ok-blocks.ensures.blocks text said reported in
    let out : FrontWentOut (OfAfter (IsChangeBegun wording) before other bytes) (g.W.Write.contents c.args.out.now) (g.W.Write.contents c.report_each.new.out) c.args.err.now c.report_each.new.err =
    front_out (OfAfter (IsChangeBegun wording) before other bytes) _ _ _ _ text said
    (begins_changes wording before other opening.said.items opening.counts.tally opening.counts.strangers c.in_ok-opening.ensures.said c.in_ok-seen.seen c.in_ok-blocks.blocks.block c.in_ok-blocks.blocks.coming seen_is bytes
    c.in_ok-blocks.ensures.blocks text said begun)
    (length text, subst (Appends (g.W.Write.contents c.args.out.now) (g.W.Write.contents c.report_each.new.out)) (sym (take-length text)) went) reports in
    search (rules, out)

pub invariant_of-sides : goal.invariant_of-sides
invariant_of-sides g c = record { are_known = subst (AreKnown (g.C.ChangeReporter.wording c.args.reporter.now) c.args.before.now) (sym c.as_slice.ensures.value) c.in_ok-opening.ensures.known }

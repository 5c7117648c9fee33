use Rattle.std.proofs.Common.{rules, ◌&&◌, false, [], length, sym, subst}
use Rattle.std.proofs.Math.Seq.{take-length}
use Rattle.std.specs.Io.KnownBytes.{Appends}
use Rattle.acl_cli.specs.Commands.{FrontWentOut}
use Rattle.acl_cli.specs.declared.command.Ending.{Ending}
use Rattle.acl_reports.proofs.BlocksLemmas.{front_out}
use Rattle.acl_reports.specs.Endings.{with_difference}
use Rattle.acl_listing_lint.specs.Findings.{LintAsking}
use Rattle.acl_listing_lint.specs.Lints.{BeginsLints}
use Rattle.acl_listing_lint.specs.LintSteps.{IsBegun, Left, left_of}
use Rattle.acl_listing_lint.proofs.LintLemmas.{answers_listing, begins_listing, begins_reported, begun_nothing, ended}
use Rattle.acl_listing_lint.proofs.report.report_listing.Goals as goal

pub report_each-requires : goal.report_each-requires
report_each-requires g c κs =
    let left : Left = record {
      asking = record { name = c.args.name.now; host = c.args.host.now };
      seen = c.nothing_seen.result;
      tally = c.new-2.result;
      closed = false;
      coming = c.in_ok-blocks.blocks.coming;
    } in
    let begun : IsBegun left [] [] = begun_nothing left false in
    search (rules, begun)

pub returns-in_err-some-clause-cut : goal.returns-in_err-some-clause-cut
returns-in_err-some-clause-cut g c =
    let asking : LintAsking = record { name = c.args.name.now; host = c.args.host.now } in
    let bytes = g.R.Read.remaining c.args.reader in
    let (text, said, begun, front, reports) = c.in_err-some.ensures.cut in
    let went : FrontWentOut (BeginsLints asking c.args.asks bytes) (g.W.Write.contents c.args.out.now) (g.W.Write.contents c.report_each.new.out) c.args.err.now c.report_each.new.err =
    front_out (BeginsLints asking c.args.asks bytes) _ _ _ _ text said
    (begins_listing asking c.args.asks c.nothing_seen.result c.new-2.result c.in_ok-blocks.blocks.coming bytes c.nothing_seen.ensures c.new-2.ensures c.in_ok-blocks.ensures.blocks text said begun) front reports in
    search (rules, went)

pub returns-then-linting-clause-answered : goal.returns-then-linting-clause-answered
returns-then-linting-clause-answered g c =
    let asking : LintAsking = record { name = c.args.name.now; host = c.args.host.now } in
    let bytes = g.R.Read.remaining c.args.reader in
    let (text, said, reported, went, reports, some_is) = c.in_ok-some.ensures.written in
    let ends = c.in_ok-some.ensures.ends c.ending.result (ended (left_of c.report_each.new.reporting) c.ending.result c.if-linting.true c.ending.ensures) in
    let ending : Ending = with_difference (c.args.asks && c.in_ok-some.some) c.ending.result in
    record {
      answer = record { text = text; beside = said; ending = ending };
      is = answers_listing asking c.args.asks c.nothing_seen.result c.new-2.result c.in_ok-blocks.blocks.coming bytes c.nothing_seen.ensures c.new-2.ensures c.in_ok-blocks.ensures.blocks text said c.in_ok-some.some c.ending.result some_is reported ends;
      ends = sym c.with_difference.ensures;
      text = went;
      beside = reports;
    }

pub returns-clause-cut : goal.returns-clause-cut
returns-clause-cut g c =
    let asking : LintAsking = record { name = c.args.name.now; host = c.args.host.now } in
    let bytes = g.R.Read.remaining c.args.reader in
    let (text, said, reported, went, reports, some_is) = c.in_ok-some.ensures.written in
    let out : FrontWentOut (BeginsLints asking c.args.asks bytes) (g.W.Write.contents c.args.out.now) (g.W.Write.contents c.report_each.new.out) c.args.err.now c.report_each.new.err =
    front_out (BeginsLints asking c.args.asks bytes) _ _ _ _ text said
    (begins_reported asking c.args.asks c.nothing_seen.result c.new-2.result c.in_ok-blocks.blocks.coming bytes c.nothing_seen.ensures c.new-2.ensures c.in_ok-blocks.ensures.blocks text said reported)
    (length text, subst (Appends (g.W.Write.contents c.args.out.now) (g.W.Write.contents c.report_each.new.out)) (sym (take-length text)) went) reports in
    search (rules, out)

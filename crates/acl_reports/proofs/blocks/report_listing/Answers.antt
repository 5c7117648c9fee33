use Rattle.std.proofs.Common.{rules, false, [], length, refl, sym, subst}
use Rattle.std.proofs.Math.Seq.{take-length}
use Rattle.std.specs.Io.KnownBytes.{Appends}
use Rattle.acl_cli.specs.Commands.{FrontWentOut}
use Rattle.acl_people.specs.Host.{names_of_host}
use Rattle.acl_reports.specs.Listed.{BeginsNaming}
use Rattle.acl_reports.specs.Reporting.{BeginsOf, Left, left_of}
use Rattle.acl_reports.proofs.BlocksLemmas.{answers_listing, begins_listing, begins_reported, begun_nothing, ended, front_out}
use Rattle.acl_reports.proofs.blocks.report_listing.Goals as goal

pub report_each-requires : goal.report_each-requires
report_each-requires g c κs =
    let Stands = g.T.BlockReporter.Stands in
    let left : Left = record {
      name = c.args.name.now;
      names = names_of_host c.args.host.now;
      part = g.T.BlockReporter.part c.args.reporter;
      stranger = g.T.BlockReporter.stranger c.args.reporter;
      tally = c.new-2.result.tally;
      strangers = c.new-2.result.strangers;
      closed = false;
      coming = c.in_ok-blocks.blocks.coming;
    } in
    let begun : BeginsOf (Stands c.args.reporter) left [] [] = (([], c.requires), λ earlier stands. begun_nothing left false earlier) in
    search (rules, begun)

pub returns-in_err-report_each-clause-cut : goal.returns-in_err-report_each-clause-cut
returns-in_err-report_each-clause-cut g c =
    let part = g.T.BlockReporter.part c.args.reporter in
    let stranger = g.T.BlockReporter.stranger c.args.reporter in
    let name = c.args.name.now in
    let names = names_of_host c.args.host.now in
    let bytes = g.R.Read.remaining c.args.reader in
    let (text, said, begun, front, reports) = c.in_err-report_each.ensures.cut in
    let went : FrontWentOut (BeginsNaming name names part stranger bytes) (g.W.Write.contents c.args.out.now) (g.W.Write.contents c.report_each.new.out) c.args.err.now c.report_each.new.err =
    front_out (BeginsNaming name names part stranger bytes) _ _ _ _ text said
    (begins_listing name names part stranger c.new-2.result.tally c.new-2.result.strangers c.in_ok-blocks.blocks.coming bytes c.new-2.ensures.tally c.new-2.ensures.strangers c.in_ok-blocks.ensures.blocks text said (begun.1 [] c.requires)) front reports in
    search (rules, went)

pub returns-then-listing-clause-answered : goal.returns-then-listing-clause-answered
returns-then-listing-clause-answered g c =
    let part = g.T.BlockReporter.part c.args.reporter in
    let stranger = g.T.BlockReporter.stranger c.args.reporter in
    let name = c.args.name.now in
    let names = names_of_host c.args.host.now in
    let bytes = g.R.Read.remaining c.args.reader in
    let (text, said, reported, went, reports, some_is) = c.in_ok-report_each.ensures.written in
    let left : Left = left_of g.T.BlockReporter.part g.T.BlockReporter.stranger c.report_each.new.reporting in
    let ends = c.in_ok-report_each.ensures.ends c.ending.result (λ earlier stands. ended left earlier c.ending.result c.if-listing.true c.ending.ensures) [] c.requires in
    record {
      answer = record { text = text; beside = said; ending = c.ending.result };
      is = answers_listing name names part stranger c.new-2.result.tally c.new-2.result.strangers c.in_ok-blocks.blocks.coming bytes c.new-2.ensures.tally c.new-2.ensures.strangers c.in_ok-blocks.ensures.blocks text said c.ending.result (reported [] c.requires) ends;
      ends = refl;
      text = went;
      beside = reports;
    }

pub returns-clause-cut : goal.returns-clause-cut
returns-clause-cut g c =
    let part = g.T.BlockReporter.part c.args.reporter in
    let stranger = g.T.BlockReporter.stranger c.args.reporter in
    let name = c.args.name.now in
    let names = names_of_host c.args.host.now in
    let bytes = g.R.Read.remaining c.args.reader in
    let (text, said, reported, went, reports, some_is) = c.in_ok-report_each.ensures.written in
    let out : FrontWentOut (BeginsNaming name names part stranger bytes) (g.W.Write.contents c.args.out.now) (g.W.Write.contents c.report_each.new.out) c.args.err.now c.report_each.new.err =
    front_out (BeginsNaming name names part stranger bytes) _ _ _ _ text said
    (begins_reported name names part stranger c.new-2.result.tally c.new-2.result.strangers c.in_ok-blocks.blocks.coming bytes c.new-2.ensures.tally c.new-2.ensures.strangers c.in_ok-blocks.ensures.blocks text said (reported [] c.requires))
    (length text, subst (Appends (g.W.Write.contents c.args.out.now) (g.W.Write.contents c.report_each.new.out)) (sym (take-length text)) went) reports in
    search (rules, out)

use Rattle.std.proofs.Common.{◌≡◌, ◌∙◌, Bool, List, None, Option, Some, ap, codes, false, subst, sym, true}
use Rattle.std.specs.Prelude.{option_map}
use Rattle.clap.specs.Words.{Row, found_of, rows_of}
use Rattle.clap.specs.declared.error.kind.ErrorKind.{ErrorKind}
use Rattle.acl_cli.specs.Commands.{Comes}
use Rattle.acl_cli.specs.Fields.{flag_in}
use Rattle.acl_cli.specs.declared.failure.Failure.{Failure}
use Rattle.acl_listing_changes.specs.ImpactMeaning.{lists_meaning}
use Rattle.acl_listing_changes.proofs.ComesLemmas.{comes_refused}
use Rattle.acl_listing_reach.specs.ImpactMeaning.{impact_meaning, meaning_if, misfit_in, unless_misfit}
use Rattle.acl_listing_reach.specs.ReachMeaning.{reach_meaning}
use Rattle.acl_listing_reach.proofs.command.ImpactCliCommand.answer.Goals as goal

pub returns-in-Some : goal.returns-in-Some
returns-in-Some g c =
    let files = g.F.OpenFiles.bytes_of c.args.files.now in
    let input = g.I.Read.remaining c.args.input.now in
    let rows : List Row = rows_of (found_of c.args.matches.now) in
    let asked = meaning_if (flag_in (codes "reach") rows) (reach_meaning files input rows) (lists_meaning files input rows) in
    let wrong : misfit_in rows ≡ Some c.in-Some.misfit.kind = sym c.find_misfit.ensures.kind ∙ ap (option_map (λ misfit. misfit.kind)) c.in-Some.is in
    let failure : Failure = c.wrong_usage.result in
    let fails : (impact_meaning files input rows).Fails failure =
    subst (λ (misfit : Option ErrorKind). (unless_misfit misfit asked).Fails failure) (sym wrong) c.wrong_usage.ensures in
    comes_refused (impact_meaning files input rows) (g.W.Write.contents c.args.out.now) c.args.err.now c.args.input.now failure fails

pub returns-then-flag_field : goal.returns-then-flag_field
returns-then-flag_field g c =
    let files = g.F.OpenFiles.bytes_of c.args.files.now in
    let input = g.I.Read.remaining c.args.input.now in
    let rows : List Row = rows_of (found_of c.args.matches.now) in
    let fits : misfit_in rows ≡ None = sym c.find_misfit.ensures.kind ∙ ap (option_map (λ misfit. misfit.kind)) c.in_default.is in
    let flag : flag_in (codes "reach") rows ≡ true = sym c.flag_field.ensures ∙ c.if-flag_field.true in
    let Ends = λ (misfit : Option ErrorKind) (asked : Bool). Comes (unless_misfit misfit (meaning_if asked (reach_meaning files input rows) (lists_meaning files input rows)))
    c.report_by_reach.result (g.W.Write.contents c.args.out.now) (g.W.Write.contents c.report_by_reach.new.out) c.args.err.now c.report_by_reach.new.err c.args.input.now
    c.report_by_reach.new.input in
    subst (λ (misfit : Option ErrorKind). Ends misfit (flag_in (codes "reach") rows)) (sym fits) (subst (λ (asked : Bool). Ends None asked) (sym flag) c.report_by_reach.ensures)

pub returns-else-flag_field : goal.returns-else-flag_field
returns-else-flag_field g c =
    let files = g.F.OpenFiles.bytes_of c.args.files.now in
    let input = g.I.Read.remaining c.args.input.now in
    let rows : List Row = rows_of (found_of c.args.matches.now) in
    let fits : misfit_in rows ≡ None = sym c.find_misfit.ensures.kind ∙ ap (option_map (λ misfit. misfit.kind)) c.in_default.is in
    let flag : flag_in (codes "reach") rows ≡ false = sym c.flag_field.ensures ∙ c.if-flag_field.false in
    let Ends = λ (misfit : Option ErrorKind) (asked : Bool). Comes (unless_misfit misfit (meaning_if asked (reach_meaning files input rows) (lists_meaning files input rows)))
    c.report_impact.result (g.W.Write.contents c.args.out.now) (g.W.Write.contents c.report_impact.new.out) c.args.err.now c.report_impact.new.err c.args.input.now
    c.report_impact.new.input in
    subst (λ (misfit : Option ErrorKind). Ends misfit (flag_in (codes "reach") rows)) (sym fits) (subst (λ (asked : Bool). Ends None asked) (sym flag) c.report_impact.ensures)

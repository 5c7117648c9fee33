use Rattle.std.proofs.Common.{◌≡◌, ◌∙◌, List, ℕ, ap, subst}
use Rattle.clap.specs.Words.{Row, found_of, rows_of}
use Rattle.acl_cli.specs.Commands.{Comes, Meaning}
use Rattle.acl_listing_changes.specs.ChangeMeaning.{before_in, change_meaning}
use Rattle.acl_listing_changes.specs.RestoreMeaning.{restore_meaning}
use Rattle.acl_listing_changes.specs.Restoring.{restoring}
use Rattle.acl_listing_changes.proofs.restore.command.RestoreCliCommand.answer.Goals as goal

pub returns : goal.returns
returns g c =
    let files = g.F.OpenFiles.bytes_of c.args.files.now in
    let input = g.I.Read.remaining c.args.input.now in
    let rows : List Row = rows_of (found_of c.args.matches.now) in
    let before : List ℕ = c.before_field-before.result.now in
    let after : List ℕ = c.after_field-after.result.now in
    let same : change_meaning restoring files input before after ≡ restore_meaning files input rows =
    ap (λ (before : List ℕ). change_meaning restoring files input before after) c.before_field-before.ensures
    ∙ ap (change_meaning restoring files input (before_in rows)) c.after_field-after.ensures in
    subst (λ (meaning : Meaning). Comes meaning c.report_between.result (g.W.Write.contents c.args.out.now) (g.W.Write.contents c.report_between.new.out) c.args.err.now c.report_between.new.err
    c.args.input.now c.report_between.new.input) same c.report_between.ensures

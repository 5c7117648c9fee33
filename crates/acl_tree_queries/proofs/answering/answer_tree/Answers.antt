use Rattle.std.proofs.Common.{rules, ◌≡◌, ◌∙◌, ◌++◌, ℕ, Err, List, None, Option, Result, Some, ap, refl, subst, sym}
use Rattle.std.proofs.lemmas.Result.{err_from_is_err_and}
use Rattle.std.specs.Io.KnownBytes.{Appends, Keeps}
use Rattle.clap.specs.Words.{found_of, rows_of}
use Rattle.acl_cli.specs.Commands.{Comes}
use Rattle.acl_cli.specs.Failures.{failed_write}
use Rattle.acl_cli.specs.Output.{AppendsFront}
use Rattle.acl_cli.specs.declared.command.Ending.{Ending}
use Rattle.acl_cli.specs.declared.failure.Failure.{Failure}
use Rattle.acl_tree_queries.specs.TreeMeaning.{tree_meaning}
use Rattle.acl_tree_queries.proofs.TreeMeaningLemmas.{Comes-answered, Comes-cut, Comes-refused}
use Rattle.acl_tree_queries.proofs.answering.answer_tree.Goals as goal

keeps-itself : (known : Option (List ℕ)) → Keeps known known
keeps-itself None = tt
keeps-itself (Some bytes) = refl

pub returns-in_err-push : goal.returns-in_err-push
returns-in_err-push g c =
    let rows = rows_of (found_of c.args.matches.now) in
    let files = g.F.OpenFiles.bytes_of c.args.files.now in
    let start = g.I.Read.remaining c.args.input.now in
    let out = g.W.Write.contents c.args.out.now in
    let meaning = tree_meaning g.P.PrintTree.IsAnswer g.P.PrintTree.IsRefused files start rows in
    let p = err_from_is_err_and c.from_residual-in_err-push.result c.from_residual-in_err-push.ensures.1 in
    let is : c.from_residual-in_err-push.result ≡ Err c.in_err-push.field-0.0 = p.1 ∙ ap Err p.2 in
    let comes = Comes-refused g.P.PrintTree.IsAnswer g.P.PrintTree.IsRefused files start rows c.in_ok-given.given.directory c.in_ok-given.given.tree
    c.in_ok-given.ensures.opened out out c.args._err.now c.args.input.now c.open_tree.new.input c.open_tree.ensures.untouched
    c.in_err-push.field-0.0 c.in_err-push.ensures.refused (keeps-itself out) in
    subst (λ (result : Result Ending Failure). Comes meaning result out out c.args._err.now c.args._err.now c.args.input.now c.open_tree.new.input) (sym is) comes

pub returns-in_err-write_text : goal.returns-in_err-write_text
returns-in_err-write_text g c =
    let rows = rows_of (found_of c.args.matches.now) in
    let files = g.F.OpenFiles.bytes_of c.args.files.now in
    let start = g.I.Read.remaining c.args.input.now in
    let out = g.W.Write.contents c.args.out.now in
    let out' = g.W.Write.contents c.write_text.new.out in
    let meaning = tree_meaning g.P.PrintTree.IsAnswer g.P.PrintTree.IsRefused files start rows in
    let is : c.from_residual-in_err-write_text.result ≡ Err failed_write = search rules in
    let (text, answers, appended) = c.in_ok-push.ensures.text in
    let same : c.as_slice.result.now ≡ text =
    c.as_slice.ensures.value ∙ appended ∙ ap (λ before. before ++ text) c.new-text.ensures.items in
    let front : AppendsFront out out' text = subst (λ (bytes : List ℕ). AppendsFront out out' bytes) same c.write_text.ensures.front in
    let comes = Comes-cut g.P.PrintTree.IsAnswer g.P.PrintTree.IsRefused files start rows c.in_ok-given.given.directory c.in_ok-given.given.tree
    c.in_ok-given.ensures.opened out out' c.args._err.now c.args.input.now c.open_tree.new.input c.open_tree.ensures.untouched text answers front in
    subst (λ (result : Result Ending Failure). Comes meaning result out out' c.args._err.now c.args._err.now c.args.input.now c.open_tree.new.input) (sym is) comes

pub returns : goal.returns
returns g c =
    let rows = rows_of (found_of c.args.matches.now) in
    let files = g.F.OpenFiles.bytes_of c.args.files.now in
    let start = g.I.Read.remaining c.args.input.now in
    let out = g.W.Write.contents c.args.out.now in
    let out' = g.W.Write.contents c.write_text.new.out in
    let (text, answers, appended) = c.in_ok-push.ensures.text in
    let same : c.as_slice.result.now ≡ text =
    c.as_slice.ensures.value ∙ appended ∙ ap (λ before. before ++ text) c.new-text.ensures.items in
    Comes-answered g.P.PrintTree.IsAnswer g.P.PrintTree.IsRefused files start rows c.in_ok-given.given.directory c.in_ok-given.given.tree
    c.in_ok-given.ensures.opened out out' c.args._err.now c.args.input.now c.open_tree.new.input c.open_tree.ensures.untouched text answers
    (subst (λ (bytes : List ℕ). Appends out out' bytes) same c.in_ok-write_text.ensures.written)

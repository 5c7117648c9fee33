use Rattle.std.proofs.Common.{◌≡◌, ◌∙◌, ℕ, List, Err, Result, Vec, Global, ap, inl, map, refl, subst, sym}
use Rattle.std.proofs.KnownBytes.{Keeps-refl}
use Rattle.std.proofs.lemmas.Result.{err_from_is_err_and}
use Rattle.std.proofs.Math.Logic.{⊎_map}
use Rattle.std.specs.Io.KnownBytes.{Appends, Keeps}
use Rattle.clap.specs.Words.{Text, found_of, rows_of}
use Rattle.acl_cli.specs.Commands.{Comes}
use Rattle.acl_cli.specs.Output.{AppendsFront}
use Rattle.acl_cli.specs.SessionFiles.{HasBytes, HaveBytes, input_count, setup_in}
use Rattle.acl_cli.specs.declared.command.Ending.{Ending}
use Rattle.acl_cli.specs.declared.failure.Failure.{Failure}
use Rattle.acl_service.specs.Files.{IsFilesFailure}
use Rattle.acl_service.specs.RunWords.{CanRun, sessions_in}
use Rattle.acl_lint.specs.LintAnswer.{IsLint, lint_meaning}
use Rattle.acl_lint.proofs.AnswerLemmas.{lint_answered, lint_failed}
use Rattle.acl_lint.proofs.lint_command.LintCommand.answer.Goals as goal

-- what is reported of these names is reported for those that they are
reported_of : (name other : Text) (names others : List Text) (setup : List ℕ) (texts : List (Vec ℕ Global)) → name ≡ other → names ≡ others → (WentOut : List ℕ → Type 0)
    → (text : List ℕ) × IsLint name setup names texts text × WentOut text → (text : List ℕ) × IsLint other setup others texts text × WentOut text
reported_of name other names others setup texts same are WentOut (text, is, went) =
    (text, subst (λ (these : List Text). IsLint other setup these texts text) are (subst (λ (one : Text). IsLint one setup names texts text) same is), went)

pub returns-in_err-texts : goal.returns-in_err-texts
returns-in_err-texts g c =
    let rows = rows_of (found_of c.args.matches.now) in
    let out = g.W.Write.contents c.args.out.now in
    let names_are = c.session_names-names.ensures in
    let failure : Failure = c.in_err-texts.field-0.0 in
    let p = err_from_is_err_and c.from_residual.result c.from_residual.ensures.1 in
    let is : c.from_residual.result ≡ Err failure = p.1 ∙ ap Err p.2 in
    let refused : IsFilesFailure (setup_in rows) (sessions_in rows) failure = subst (λ (names : List Text). IsFilesFailure (setup_in rows) names failure) names_are
    (subst (λ (setup : Text). IsFilesFailure setup (map (λ name. name.now) c.session_names-names.result.now) failure) c.setup_field-setup.ensures c.in_err-texts.ensures.refused) in
    let meaning = lint_meaning (g.F.OpenFiles.bytes_of c.args.files.now) (g.I.Read.remaining c.args.input.now) rows in
    subst (λ (result : Result Ending Failure). Comes meaning result out out c.args._err.now c.args._err.now c.args.input.now c.read_texts.new.input) (sym is)
    (record {
      answered = tt;
      fails = inl refused;
      silent = λ few. (Keeps-refl out, refl);
      cut = inl (Keeps-refl out, refl);
      untouched = λ none. c.read_texts.ensures.untouched (ap input_count names_are ∙ none);
      unread = c.in_err-texts.ensures.unread;
    })

pub returns-in_err-write_answer : goal.returns-in_err-write_answer
returns-in_err-write_answer g c =
    let rows = rows_of (found_of c.args.matches.now) in
    let bytes_of = g.F.OpenFiles.bytes_of c.args.files.now in
    let start = g.I.Read.remaining c.args.input.now in
    let out = g.W.Write.contents c.args.out.now in
    let out' = g.W.Write.contents c.write_answer.new.out in
    let names_are = c.session_names-names.ensures in
    let read = c.in_ok-texts.ensures in
    let setup : List ℕ = c.in_ok-texts.texts.setup.items in
    let texts : List (Vec ℕ Global) = c.in_ok-texts.texts.sessions.items in
    let failure : Failure = c.in_err-write_answer.field-0.0 in
    let p = err_from_is_err_and c.from_residual-in_err-write_answer.result c.from_residual-in_err-write_answer.ensures.1 in
    let is : c.from_residual-in_err-write_answer.result ≡ Err failure = p.1 ∙ ap Err p.2 in
    let comes = lint_failed bytes_of start rows (subst CanRun names_are read.taken) setup texts
    (subst (λ (name : Text). HasBytes (bytes_of name) setup) c.setup_field-setup.ensures read.setup)
    (subst (λ (names : List Text). HaveBytes bytes_of start names texts) names_are read.sessions)
    out out' c.args._err.now c.args.input.now c.read_texts.new.input (λ none. c.read_texts.ensures.untouched (ap input_count names_are ∙ none)) failure c.in_err-write_answer.ensures.lack
    (⊎_map (λ (kept : Keeps out out'). kept)
    (reported_of c.setup_field-setup.result.now (setup_in rows) (map (λ name. name.now) c.session_names-names.result.now) (sessions_in rows) setup texts c.setup_field-setup.ensures names_are (AppendsFront out out'))
    c.in_err-write_answer.ensures.cut) in
    subst (λ (result : Result Ending Failure). Comes (lint_meaning bytes_of start rows) result out out' c.args._err.now c.args._err.now c.args.input.now c.read_texts.new.input) (sym is) comes

pub returns : goal.returns
returns g c =
    let rows = rows_of (found_of c.args.matches.now) in
    let bytes_of = g.F.OpenFiles.bytes_of c.args.files.now in
    let start = g.I.Read.remaining c.args.input.now in
    let out = g.W.Write.contents c.args.out.now in
    let out' = g.W.Write.contents c.write_answer.new.out in
    let names_are = c.session_names-names.ensures in
    let read = c.in_ok-texts.ensures in
    let setup : List ℕ = c.in_ok-texts.texts.setup.items in
    let texts : List (Vec ℕ Global) = c.in_ok-texts.texts.sessions.items in
    lint_answered bytes_of start rows (subst CanRun names_are read.taken) setup texts
    (subst (λ (name : Text). HasBytes (bytes_of name) setup) c.setup_field-setup.ensures read.setup)
    (subst (λ (names : List Text). HaveBytes bytes_of start names texts) names_are read.sessions)
    out out' c.args._err.now c.args.input.now c.read_texts.new.input (λ none. c.read_texts.ensures.untouched (ap input_count names_are ∙ none))
    (reported_of c.setup_field-setup.result.now (setup_in rows) (map (λ name. name.now) c.session_names-names.result.now) (sessions_in rows) setup texts c.setup_field-setup.ensures names_are (Appends out out')
    c.in_ok-write_answer.ensures.written)

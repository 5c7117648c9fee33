use Rattle.std.proofs.Common.{◌≡◌, ◌∙◌, ℕ, Bool, Bor, List, Option, Err, Result, Vec, Global, ap, codes, length, map, subst, sym}
use Rattle.std.proofs.lemmas.List.{length-map}
use Rattle.std.proofs.lemmas.Result.{err_from_is_err_and}
use Rattle.clap.specs.Words.{Text, found_of, rows_of}
use Rattle.acl_cli.specs.Commands.{Comes}
use Rattle.acl_cli.specs.Fields.{flag_in}
use Rattle.acl_cli.specs.SessionFiles.{HasBytes, HaveBytes, input_count}
use Rattle.acl_cli.specs.declared.command.Ending.{Ending}
use Rattle.acl_cli.specs.declared.failure.Failure.{Failure}
use Rattle.acl_service.specs.RunMeaning.{run_meaning}
use Rattle.acl_service.specs.RunTexts.{RunsTexts}
use Rattle.acl_service.specs.RunWords.{CanRun}
use Rattle.acl_service.specs.TextsFailures.{IsTextsFailure}
use Rattle.acl_service.proofs.RunLemmas.{files_failed, files_ran}
use Rattle.acl_service.proofs.run_command.answer.Goals as goal

-- what texts print, by what they are
over : (setup setup' : List ℕ) (texts texts' : List (Vec ℕ Global)) (journal journal' : Bool) (limit : Option ℕ) (WentOut : List ℕ → Type 0) → setup ≡ setup' → texts ≡ texts' → journal ≡ journal'
    → RunsTexts setup texts journal limit WentOut → RunsTexts setup' texts' journal' limit WentOut
over setup setup' texts texts' journal journal' limit WentOut same are is runs =
    subst (λ (journal : Bool). RunsTexts setup' texts' journal limit WentOut) is
    (subst (λ (those : List (Vec ℕ Global)). RunsTexts setup' those journal limit WentOut) are (subst (λ (bytes : List ℕ). RunsTexts bytes texts journal limit WentOut) same runs))

counted : (names : List (Bor (List ℕ))) (sessions : List Text) (texts : List (Vec ℕ Global)) → map (λ name. name.now) names ≡ sessions → length texts ≡ length names → length texts ≡ length sessions
counted names sessions texts are count = count ∙ sym (length-map names (λ name. name.now)) ∙ ap length are

pub returns : goal.returns
returns g c = λ said.
    let rows = rows_of (found_of c.args.matches.now) in
    let bytes_of = g.F.OpenFiles.bytes_of c.args.files.now in
    let start = g.I.Read.remaining c.args.input.now in
    let names_are = c.session_names-names.ensures in
    let read = c.in_ok-texts.ensures in
    let setup : List ℕ = c.in_ok-texts.texts.setup.items in
    let texts : List (Vec ℕ Global) = c.in_ok-texts.texts.sessions.items in
    files_ran bytes_of start rows (subst CanRun names_are read.taken) setup texts (counted _ _ texts names_are read.count)
    (subst (λ (name : Text). HasBytes (bytes_of name) setup) c.setup_field.ensures read.setup)
    (subst (λ (names : List Text). HaveBytes bytes_of start names texts) names_are read.sessions)
    c.limit_field.result c.limit_field.ensures.is _ _ said _ _ (λ none. c.read_texts.ensures.untouched (ap input_count names_are ∙ none))
    (over _ setup _ texts _ (flag_in (codes "journal") rows) _ _ c.as_slice-setup.ensures.value c.as_slice-sessions.ensures.value c.flag_field.ensures c.in_ok-print_texts.ensures.printed)

pub returns-in_err-print_texts : goal.returns-in_err-print_texts
returns-in_err-print_texts g c = λ said.
    let rows = rows_of (found_of c.args.matches.now) in
    let bytes_of = g.F.OpenFiles.bytes_of c.args.files.now in
    let start = g.I.Read.remaining c.args.input.now in
    let out = g.W.Write.contents c.args.out.now in
    let out' = g.W.Write.contents c.print_texts.new.out in
    let names_are = c.session_names-names.ensures in
    let read = c.in_ok-texts.ensures in
    let setup : List ℕ = c.in_ok-texts.texts.setup.items in
    let texts : List (Vec ℕ Global) = c.in_ok-texts.texts.sessions.items in
    let failure : Failure = c.in_err-print_texts.field-0.0 in
    let p = err_from_is_err_and c.from_residual-in_err-print_texts.result c.from_residual-in_err-print_texts.ensures.1 in
    let is : c.from_residual-in_err-print_texts.result ≡ Err failure = p.1 ∙ ap Err p.2 in
    let refused : IsTextsFailure setup (length texts) failure =
    subst (λ (bytes : List ℕ). IsTextsFailure bytes (length texts) failure) c.as_slice-setup.ensures.value
    (subst (λ (those : List (Vec ℕ Global)). IsTextsFailure c.as_slice-setup.result.now (length those) failure) c.as_slice-sessions.ensures.value c.in_err-print_texts.ensures.refused) in
    let comes = files_failed bytes_of start rows (subst CanRun names_are read.taken) setup texts (counted _ _ texts names_are read.count)
    (subst (λ (name : Text). HasBytes (bytes_of name) setup) c.setup_field.ensures read.setup)
    (subst (λ (names : List Text). HaveBytes bytes_of start names texts) names_are read.sessions)
    c.limit_field.result c.limit_field.ensures.is out out' said c.args.input.now c.read_texts.new.input (λ none. c.read_texts.ensures.untouched (ap input_count names_are ∙ none))
    failure refused c.in_err-print_texts.ensures.silent (λ lost.
    over _ setup _ texts _ (flag_in (codes "journal") rows) _ _ c.as_slice-setup.ensures.value c.as_slice-sessions.ensures.value c.flag_field.ensures (c.in_err-print_texts.ensures.cut (ap Err lost))) in
    subst (λ (result : Result Ending Failure). Comes (run_meaning bytes_of start rows) result out out' said said c.args.input.now c.read_texts.new.input) (sym is) comes

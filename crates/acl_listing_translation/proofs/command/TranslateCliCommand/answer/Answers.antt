use Rattle.std.proofs.Common.{◌≡◌, ◌∙◌, List, Option, ℕ, ap, ap₂, codes, inr, subst, refl}
use Rattle.clap.specs.Words.{Row, Text, found_of, rows_of}
use Rattle.acl_names.specs.Names.{Names}
use Rattle.acl_cli.specs.Commands.{Answer}
use Rattle.acl_cli.specs.Fields.{flag_in}
use Rattle.acl_cli.proofs.CommandsLemmas.{Comes-as}
use Rattle.acl_people.specs.Host.{names_of_host}
use Rattle.acl_reports.specs.Listed.{AnswersListing, BeginsListing, Part}
use Rattle.acl_reports.specs.ListingMeaning.{FailsForListing, bytes_named, inputs_of, listing_meaning}
use Rattle.acl_listing_translation.specs.Translated.{Translating, translate_part}
use Rattle.acl_listing_translation.specs.TranslateMeaning.{TranslateAnswers, translate_meaning}
use Rattle.acl_listing_translation.proofs.command.TranslateCliCommand.answer.Goals as goal

pub returns : goal.returns
returns g c =
    let files = g.F.OpenFiles.bytes_of c.args.files.now in
    let input = g.I.Read.remaining c.args.input.now in
    let rows : List Row = rows_of (found_of c.args.matches.now) in
    let host = c.in_ok-host.host in
    let form = c.in_ok-form.form in
    let name_is = c.listing_field.ensures in
    let reported : Translating = record { names = names_of_host host; form = form; attributes = c.flag_field.result; pairs = c.flag_field-2.result } in
    let asked : Translating = record { names = names_of_host host; form = form; attributes = flag_in (codes "attributes") rows; pairs = flag_in (codes "print0") rows } in
    let same : reported ≡ asked =
    ap₂ (λ attributes pairs. record { names = names_of_host host; form = form; attributes = attributes; pairs = pairs }) c.flag_field.ensures c.flag_field-2.ensures in
    let part = listing_meaning files input c.listing_field.result.now (names_of_host host) (translate_part reported) in
    let meant : (Is : Text → Names → (List (List ℕ) → List ℕ → Part) → Option (List ℕ) → Answer → Type 0) (answer : Answer) → Is c.listing_field.result.now (names_of_host host) (translate_part reported) (bytes_named files input c.listing_field.result.now) answer → TranslateAnswers Is files input rows answer = λ Is answer is. record {
      host = host;
      host_is = c.in_ok-host.ensures.opened;
      form = form;
      form_is = c.in_ok-form.ensures.read;
      is = subst (λ (name : List ℕ). Is name (names_of_host host) (translate_part asked) (bytes_named files input name) answer) name_is
          (subst (λ (asking : Translating). Is c.listing_field.result.now (names_of_host host) (translate_part asking) (bytes_named files input c.listing_field.result.now) answer) same is);
    } in
    Comes-as part (translate_meaning files input rows) c.report_named.result _ _ _ _ _ _
    (meant AnswersListing) (meant BeginsListing)
    (λ failure fails. inr (rw c.in_ok-form.ensures.read refl, inr (subst (λ (name : List ℕ). FailsForListing name failure) name_is fails)))
    (λ none. ap inputs_of name_is ∙ none)
    c.report_named.ensures

use Rattle.std.proofs.Common.{◌≡◌, ◌∙◌, List, Option, ℕ, ap, inr, refl, subst}
use Rattle.clap.specs.Words.{Row, Text, found_of, rows_of}
use Rattle.acl_names.specs.Names.{Names}
use Rattle.acl_cli.specs.Commands.{Answer}
use Rattle.acl_cli.proofs.CommandsLemmas.{Comes-as}
use Rattle.acl_people.specs.Host.{names_of_host}
use Rattle.acl_reports.specs.Listed.{AnswersNaming, BeginsNaming, Part}
use Rattle.acl_reports.specs.ListingMeaning.{FailsForListing, bytes_named, inputs_of, naming_meaning}
use Rattle.acl_reports.specs.RulesMeaning.{rules_in}
use Rattle.acl_reports.specs.Strangers.{stranger_in}
use Rattle.acl_reports.specs.declared.stranger.Stranger.{Stranger}
use Rattle.acl_people.specs.Asked.{names_of_people, persons_of}
use Rattle.acl_people.proofs.AskedLemmas.{persons_again}
use Rattle.acl_listing_queries.specs.WhoMeaning.{WhoAnswers, WhoAsked, asking_in, who_meaning}
use Rattle.acl_listing_queries.specs.WhoPart.{Asking, who_part}
use Rattle.acl_listing_queries.specs.WhoSteps.{question_of}
use Rattle.acl_listing_queries.proofs.who.command.WhoCliCommand.answer.Goals as goal

pub returns : goal.returns
returns g c =
    let files = g.F.OpenFiles.bytes_of c.args.files.now in
    let input = g.I.Read.remaining c.args.input.now in
    let rows : List Row = rows_of (found_of c.args.matches.now) in
    let host = c.in_ok-host.host in
    let asked_for = question_of c.in_ok-asked.asked in
    let (persons, people, persons_are) = c.in_ok-people.ensures.read in
    let name = c.listing_field.result.now in
    let name_is = c.listing_field.ensures in
    let reported : Asking = record {
      names = names_of_host host;
      rules = c.rules_field.result;
      persons = persons_of (names_of_people c.in_ok-people.people) c.in_ok-people.people.requesters.items;
      question = asked_for;
      reach = c.reach_field.result;
    } in
    let asked : WhoAsked files rows = record {
      host = host;
      host_is = c.in_ok-host.ensures.opened;
      persons = persons;
      persons_are = persons_are;
      question = asked_for;
      question_is = c.in_ok-asked.ensures.read;
    } in
    let asking : Asking = asking_in rows asked in
    let asking_is : reported ≡ asking =
    ap (λ persons. record reported { persons = persons }) (persons_again persons c.in_ok-people.people people)
    ∙ ap (λ rules. record { names = names_of_host host; rules = rules; persons = persons; question = asked_for; reach = c.reach_field.result }) c.rules_field.ensures
    ∙ ap (λ reach. record { names = names_of_host host; rules = rules_in rows; persons = persons; question = asked_for; reach = reach }) c.reach_field.ensures in
    let part = naming_meaning files input name (names_of_host host) (who_part reported) (stranger_in host) in
    let meant : (Is : Text → Names → (List (List ℕ) → List ℕ → Part) → (List ℕ → Option Stranger) → Option (List ℕ) → Answer → Type 0) (answer : Answer) → Is name (names_of_host host) (who_part reported) (stranger_in host) (bytes_named files input name) answer → WhoAnswers Is files input rows answer = λ Is answer is. (
      asked,
      subst (λ (name : List ℕ). Is name (names_of_host host) (who_part asking) (stranger_in host) (bytes_named files input name) answer) name_is
          (subst (λ (asking : Asking). Is name (names_of_host host) (who_part asking) (stranger_in host) (bytes_named files input name) answer) asking_is is),
    ) in
    Comes-as part (who_meaning files input rows) c.report_who.result _ _ _ _ _ _
    (meant AnswersNaming) (meant BeginsNaming)
    (λ failure fails. inr (rw c.in_ok-asked.ensures.read refl, inr (inr (subst (λ (name : List ℕ). FailsForListing name failure) name_is fails))))
    (λ none. ap inputs_of name_is ∙ none)
    c.report_who.ensures

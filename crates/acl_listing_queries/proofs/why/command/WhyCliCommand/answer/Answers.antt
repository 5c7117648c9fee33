use Rattle.std.proofs.Common.{◌≡◌, ◌∙◌, List, ℕ, Err, ap, inl, inr, refl, rules, subst}
use Rattle.clap.specs.Words.{Row, found_of, rows_of}
use Rattle.acl_cli.specs.Commands.{Answer}
use Rattle.acl_cli.proofs.CommandsLemmas.{Comes-as, Comes-failed}
use Rattle.acl_people.specs.Host.{names_of_host}
use Rattle.acl_people.specs.Person.{Person}
use Rattle.acl_reports.specs.ListingMeaning.{inputs_of}
use Rattle.acl_listing_queries.specs.PathWord.{as_listed}
use Rattle.acl_reports.specs.RulesMeaning.{rules_in}
use Rattle.acl_listing_queries.specs.WhyMeaning.{AnswersPath, FailsForPath, WhyAnswers, blocks_named, path_in, path_meaning, why_meaning}
use Rattle.acl_listing_queries.specs.WhySteps.{sought_by}
use Rattle.acl_listing_queries.specs.WhyText.{Sought, WhyAsking}
use Rattle.acl_listing_queries.proofs.why.command.WhyCliCommand.answer.Goals as goal

pub returns : goal.returns
returns g c =
    let files = g.F.OpenFiles.bytes_of c.args.files.now in
    let input = g.I.Read.remaining c.args.input.now in
    let rows : List Row = rows_of (found_of c.args.matches.now) in
    let host = c.in_ok-host.host in
    let person : Person = c.in_ok-person.person in
    let sought : Sought = sought_by c.in_ok-sought.sought in
    let name : List ℕ = c.listing_field-name.result.now in
    let name_is = c.listing_field-name.ensures in
    let path : List ℕ = as_listed c.path_field.result.now in
    let path_is = c.path_field.ensures in
    let asked : WhyAsking = record { names = names_of_host host; rules = rules_in rows; who = person.who; sought = sought } in
    let reported : WhyAsking = record { names = names_of_host host; rules = c.rules_field.result; who = c.person.inside.requester; sought = sought } in
    let same : reported ≡ asked =
    ap (λ (person : Person). record { names = names_of_host host; rules = c.rules_field.result; who = person.who; sought = sought }) c.person.view_is
    ∙ ap (λ rules. record { names = names_of_host host; rules = rules; who = person.who; sought = sought }) c.rules_field.ensures in
    let meant : (answer : Answer) → AnswersPath reported name path (blocks_named files input name) answer → WhyAnswers files input rows answer = λ answer is. record {
      host = host;
      host_is = c.in_ok-host.ensures.opened;
      person = person;
      person_is = c.in_ok-person.ensures.read;
      fits = c.in_ok-sought.ensures.fits;
      sought = sought;
      sought_is = c.in_ok-sought.ensures.read;
      is = subst (λ (name : List ℕ). AnswersPath asked name (path_in rows) (blocks_named files input name) answer) name_is
          (subst (λ (path : List ℕ). AnswersPath asked name path (blocks_named files input name) answer) path_is
          (subst (λ (asking : WhyAsking). AnswersPath asking name path (blocks_named files input name) answer) same is));
    } in
    Comes-as (path_meaning reported files input name path) (why_meaning files input rows) c.report_why.result _ _ _ _ _ _
    meant meant
    (λ failure fails. inr (
      c.in_ok-sought.ensures.fits,
      rw c.in_ok-sought.ensures.read refl,
      inr (inr (subst (λ (name : List ℕ). FailsForPath name (path_in rows) (blocks_named files input name) failure) name_is
          (subst (λ (path : List ℕ). FailsForPath name path (blocks_named files input name) failure) path_is fails))),
    ))
    (λ none. ap inputs_of name_is ∙ none)
    c.report_why.ensures

pub returns-in_err-person : goal.returns-in_err-person
returns-in_err-person g c =
    let files = g.F.OpenFiles.bytes_of c.args.files.now in
    let input = g.I.Read.remaining c.args.input.now in
    let rows : List Row = rows_of (found_of c.args.matches.now) in
    let failure = c.in_err-person.field-0.0 in
    let is : c.from_residual-in_err-person.result ≡ Err failure = search rules in
    rw is (Comes-failed (why_meaning files input rows) failure _ _ _
    (inr (c.in_ok-sought.ensures.fits, rw c.in_ok-sought.ensures.read refl, inr (inl (c.in_ok-host.host, c.in_ok-host.ensures.opened, c.in_err-person.ensures.refused)))))

use Rattle.std.proofs.Common.{Err, Option, Result, rules, ◌≡◌, ◌∙◌, ◌+◌, List, ℕ, ap, inl, inr, subst, sym}
use Rattle.clap.specs.Words.{Row, found_of, rows_of}
use Rattle.acl_cli.proofs.CommandsLemmas.{Comes-as}
use Rattle.acl_cli.specs.Commands.{Comes, Meaning}
use Rattle.acl_cli.specs.Failures.{out_of_memory}
use Rattle.acl_cli.specs.declared.command.Ending.{Ending}
use Rattle.acl_cli.specs.declared.failure.Failure.{Failure}
use Rattle.acl_people.specs.Host.{names_of_host}
use Rattle.acl_people.specs.Asked.{persons_in}
use Rattle.acl_reports.specs.Listed.{Part}
use Rattle.acl_reports.specs.declared.stranger.Stranger.{Stranger}
use Rattle.acl_reports.specs.ListingMeaning.{inputs_of}
use Rattle.acl_reports.specs.RulesMeaning.{rules_in}
use Rattle.acl_listing_queries.specs.WhoPart.{letters_asked, who_part}
use Rattle.acl_listing_queries.specs.WhoSteps.{asking_of, stranger_by}
use Rattle.acl_listing_changes.specs.ChangeMeaning.{FailsForListings, after_in, before_in}
use Rattle.acl_listing_changes.proofs.ComesLemmas.{comes_refused}
use Rattle.acl_listing_reach.specs.CommandSteps.{asked_meaning}
use Rattle.acl_listing_reach.specs.ReachAnswer.{IsReachAnswer, IsReachBegun}
use Rattle.acl_listing_reach.specs.ReachMeaning.{reach_asked, reach_source}
use Rattle.acl_listing_reach.specs.ReachText.{ReachAsking}
use Rattle.acl_listing_reach.specs.Sources.{Source, source_named, sources_meaning}
use Rattle.acl_listing_reach.proofs.CommandLemmas.{answers_as, same_source}
use Rattle.acl_listing_reach.proofs.command.report_sides.Goals as goal

pub returns-in_err-letters_by_reach : goal.returns-in_err-letters_by_reach
returns-in_err-letters_by_reach g c =
    let files = g.F.OpenFiles.bytes_of c.args.files.now in
    let input = g.I.Read.remaining c.args.input.now in
    let rows : List Row = rows_of (found_of c.args.matches.now) in
    let meaning : Meaning = asked_meaning files input rows c.args.earlier.host.now (persons_in c.args.earlier.people.now) c.args.later.host.now (persons_in c.args.later.people.now) in
    let fails : FailsForListings (before_in rows) (after_in rows) out_of_memory = inr (c.requires, inr (inl tt)) in
    let is : c.from_residual.result ≡ Err out_of_memory = search rules in
    let out = g.W.Write.contents c.args.out.now in
    let Ends = λ (result : Result Ending Failure). Comes meaning result out out c.args.err.now c.args.err.now c.args.input.now c.args.input.now in
    subst Ends (sym is) (comes_refused meaning out c.args.err.now c.args.input.now out_of_memory fails)

pub returns-in_err-letters_by_reach-2 : goal.returns-in_err-letters_by_reach-2
returns-in_err-letters_by_reach-2 g c =
    let files = g.F.OpenFiles.bytes_of c.args.files.now in
    let input = g.I.Read.remaining c.args.input.now in
    let rows : List Row = rows_of (found_of c.args.matches.now) in
    let meaning : Meaning = asked_meaning files input rows c.args.earlier.host.now (persons_in c.args.earlier.people.now) c.args.later.host.now (persons_in c.args.later.people.now) in
    let fails : FailsForListings (before_in rows) (after_in rows) out_of_memory = inr (c.requires, inr (inl tt)) in
    let is : c.from_residual-in_err-letters_by_reach-2.result ≡ Err out_of_memory = search rules in
    let out = g.W.Write.contents c.args.out.now in
    let Ends = λ (result : Result Ending Failure). Comes meaning result out out c.args.err.now c.args.err.now c.args.input.now c.args.input.now in
    subst Ends (sym is) (comes_refused meaning out c.args.err.now c.args.input.now out_of_memory fails)

pub returns : goal.returns
returns g c =
    let files = g.F.OpenFiles.bytes_of c.args.files.now in
    let input = g.I.Read.remaining c.args.input.now in
    let rows : List Row = rows_of (found_of c.args.matches.now) in
    let host = c.args.earlier.host.now in
    let other_host = c.args.later.host.now in
    let persons = persons_in c.args.earlier.people.now in
    let others = persons_in c.args.later.people.now in
    let names = names_of_host host in
    let other_names = names_of_host other_host in
    let before : List ℕ = c.before_field.result.now in
    let after : List ℕ = c.after_field.result.now in
    let reported : ReachAsking = record { persons = persons; each = c.each_has_a_line.result; asks = c.flag_field.result } in
    let asked : ReachAsking = reach_asked persons rows in
    let asking_is : reported ≡ asked =
    ap (λ each. record reported { each = each }) c.each_has_a_line.ensures
    ∙ ap (λ asks. record reported { each = asked.each; asks = asks }) c.flag_field.ensures in
    let one_part : List (List ℕ) → List ℕ → Part = who_part (asking_of c.in_ok-letters_by_reach.field-0.answers.users) in
    let other_part : List (List ℕ) → List ℕ → Part = who_part (asking_of c.in_ok-letters_by_reach-2.field-0.answers.users) in
    let one_stranger : List ℕ → Option Stranger = stranger_by c.in_ok-letters_by_reach.field-0.answers.users in
    let other_stranger : List ℕ → Option Stranger = stranger_by c.in_ok-letters_by_reach-2.field-0.answers.users in
    let one : Source = source_named files input names one_part one_stranger before in
    let other : Source = source_named files input other_names other_part other_stranger after in
    let first : Source = reach_source files input (rules_in rows) host persons (before_in rows) in
    let second : Source = reach_source files input (rules_in rows) other_host others (after_in rows) in
    let one_is : one ≡ first = same_source files input names
    one_part _ (c.in_ok-letters_by_reach.ensures.part ∙ ap (λ rules. who_part (letters_asked rules names persons)) c.rules_field-rules.ensures)
    one_stranger _ c.in_ok-letters_by_reach.ensures.stranger before (before_in rows) c.before_field.ensures in
    let other_is : other ≡ second = same_source files input other_names
    other_part _ (c.in_ok-letters_by_reach-2.ensures.part ∙ ap (λ rules. who_part (letters_asked rules other_names others)) c.rules_field-rules.ensures)
    other_stranger _ c.in_ok-letters_by_reach-2.ensures.stranger after (after_in rows) c.after_field.ensures in
    let meaning = sources_meaning reported one other in
    Comes-as meaning (asked_meaning files input rows host persons other_host others) c.report_between.result _ _ _ _ _ _
    (λ answer is. answers_as IsReachAnswer answer reported asked asking_is one first other second one_is other_is is)
    (λ answer is. answers_as IsReachBegun answer reported asked asking_is one first other second one_is other_is is)
    (λ failure fails. subst (λ (before : List ℕ). FailsForListings before (after_in rows) failure) c.before_field.ensures
    (subst (λ (after : List ℕ). FailsForListings before after failure) c.after_field.ensures fails))
    (λ none. ap (λ (before : List ℕ). inputs_of before + inputs_of after) c.before_field.ensures ∙ ap (λ (after : List ℕ). inputs_of (before_in rows) + inputs_of after) c.after_field.ensures ∙ none)
    c.report_between.ensures

use Rattle.std.proofs.Common.{Err, IfErr, Result, rules, ◌≡◌, ◌∙◌, ◌+◌, ◌&&◌, Bool, false, not, List, ℕ, ap, ap₂, inl, inr, subst, sym}
use Rattle.clap.specs.Words.{Row, found_of, rows_of}
use Rattle.acl_cli.proofs.CommandsLemmas.{Comes-as}
use Rattle.acl_cli.specs.Commands.{Comes, Meaning}
use Rattle.acl_cli.specs.declared.command.Ending.{Ending}
use Rattle.acl_cli.specs.declared.failure.Failure.{Failure}
use Rattle.acl_people.specs.Host.{names_of_host}
use Rattle.acl_reports.specs.ListingMeaning.{bytes_named, inputs_of, is_input}
use Rattle.acl_reports.specs.Strangers.{stranger_in}
use Rattle.acl_people.specs.Asked.{persons_in}
use Rattle.acl_people.proofs.AskedLemmas.{persons_again}
use Rattle.acl_listing_changes.specs.ChangeMeaning.{FailsForListings, after_in, before_in, change_meaning, is_input_twice}
use Rattle.acl_listing_changes.specs.Changes.{IsChangeAnswer, IsChangeBegun, OfListings}
use Rattle.acl_listing_changes.specs.ImpactMeaning.{FailsForImpact, concern_in, impact_asked, lists_meaning}
use Rattle.std.proofs.lemmas.Result.{IfErr-weaker}
use Rattle.acl_listing_changes.specs.Impacting.{Concern, ImpactAsking, impacting}
use Rattle.acl_listing_changes.proofs.ComesLemmas.{comes_refused}
use Rattle.acl_listing_changes.proofs.impact.command.report_impact.Goals as goal

-- what is said of the names is said of what the words have
twice_of : (before before' after after' : List ℕ) → before ≡ before' → after ≡ after' → (b : Bool) → b ≡ (is_input before && is_input after)
    → (is_input before' && is_input after') ≡ b
twice_of before before' after after' before_is after_is b is =
    sym (is ∙ ap₂ (λ (one other : List ℕ). is_input one && is_input other) before_is after_is)

pub returns-in_err-host : goal.returns-in_err-host
returns-in_err-host g c =
    let files = g.F.OpenFiles.bytes_of c.args.files.now in
    let input = g.I.Read.remaining c.args.input.now in
    let rows : List Row = rows_of (found_of c.args.matches.now) in
    let once : is_input_twice (before_in rows) (after_in rows) ≡ false =
    twice_of c.before_field-before.result.now (before_in rows) c.after_field-after.result.now (after_in rows) c.before_field-before.ensures c.after_field-after.ensures
    c.is_input_twice.result c.is_input_twice.ensures ∙ c.if-is_input_twice.false in
    let fails : IfErr c.read_host.result (λ failure. (lists_meaning files input rows).Fails failure) =
    IfErr-weaker c.read_host.result _ _ (λ failure fails. inr (once, inl fails)) c.read_host.ensures.refused in
    search (rules, fails, comes_refused (lists_meaning files input rows) (g.W.Write.contents c.args.out.now) c.args.err.now c.args.input.now)

pub returns-in_err-people : goal.returns-in_err-people
returns-in_err-people g c =
    let files = g.F.OpenFiles.bytes_of c.args.files.now in
    let input = g.I.Read.remaining c.args.input.now in
    let rows : List Row = rows_of (found_of c.args.matches.now) in
    let once : is_input_twice (before_in rows) (after_in rows) ≡ false =
    twice_of c.before_field-before.result.now (before_in rows) c.after_field-after.result.now (after_in rows) c.before_field-before.ensures c.after_field-after.ensures
    c.is_input_twice.result c.is_input_twice.ensures ∙ c.if-is_input_twice.false in
    let meaning : Meaning = lists_meaning files input rows in
    let failure : Failure = c.in_err-people.field-0.0 in
    let fails : FailsForImpact files rows failure = inr (once, inr (inl (c.in_ok-host.host, c.in_ok-host.ensures.opened, c.in_err-people.ensures.refused))) in
    let is : c.from_residual-in_err-people.result ≡ Err failure = search rules in
    let out = g.W.Write.contents c.args.out.now in
    let Ends = λ (result : Result Ending Failure). Comes meaning result out out c.args.err.now c.args.err.now c.args.input.now c.args.input.now in
    subst Ends (sym is) (comes_refused meaning out c.args.err.now c.args.input.now failure fails)

pub returns : goal.returns
returns g c =
    let files = g.F.OpenFiles.bytes_of c.args.files.now in
    let input = g.I.Read.remaining c.args.input.now in
    let rows : List Row = rows_of (found_of c.args.matches.now) in
    let host = c.in_ok-host.host in
    let (persons, people, persons_are) = c.in_ok-people.ensures.read in
    let before : List ℕ = c.before_field-before.result.now in
    let after : List ℕ = c.after_field-after.result.now in
    let once : is_input_twice (before_in rows) (after_in rows) ≡ false =
    twice_of before (before_in rows) after (after_in rows) c.before_field-before.ensures c.after_field-after.ensures
    c.is_input_twice.result c.is_input_twice.ensures ∙ c.if-is_input_twice.false in
    let concern : Concern = record {
      persons = persons_in c.in_ok-people.people;
      known = c.in_ok-people.people.requesters.items;
      each = c.each_has_a_line.result;
      somebody = not c.names_users.result;
    } in
    let reported : ImpactAsking = record {
      names = names_of_host host;
      stranger = stranger_in host;
      rules = c.rules_field.result;
      concern = concern;
      written = c.flag_field.result;
      asks = c.flag_field-2.result;
    } in
    let asked : ImpactAsking = impact_asked host persons rows in
    let concern_is : concern ≡ concern_in persons rows =
    ap (λ persons. record concern { persons = persons }) (persons_again persons c.in_ok-people.people people)
    ∙ ap (λ known. record concern { persons = persons; known = known }) people.requesters
    ∙ ap (λ each. record concern { persons = persons; known = (concern_in persons rows).known; each = each }) c.each_has_a_line.ensures
    ∙ ap (λ those. record (concern_in persons rows) { somebody = not those }) c.names_users.ensures in
    let asking_is : reported ≡ asked =
    ap (λ rules. record reported { rules = rules }) c.rules_field.ensures
    ∙ ap (λ concern. record reported { rules = asked.rules; concern = concern }) concern_is
    ∙ ap (λ written. record reported { rules = asked.rules; concern = asked.concern; written = written }) c.flag_field.ensures
    ∙ ap (λ asks. record reported { rules = asked.rules; concern = asked.concern; written = asked.written; asks = asks }) c.flag_field-2.ensures in
    let part = change_meaning (impacting reported) files input before after in
    Comes-as part (lists_meaning files input rows) c.report_between.result _ _ _ _ _ _
    (λ answer is. record {
      host = host;
      host_is = c.in_ok-host.ensures.opened;
      persons = persons;
      persons_are = persons_are;
      is = subst (λ (before : List ℕ). OfListings (IsChangeAnswer (impacting asked)) before (bytes_named files input before) (after_in rows) (bytes_named files input (after_in rows)) answer)
          c.before_field-before.ensures
          (subst (λ (after : List ℕ). OfListings (IsChangeAnswer (impacting asked)) before (bytes_named files input before) after (bytes_named files input after) answer) c.after_field-after.ensures
          (subst (λ (asking : ImpactAsking). OfListings (IsChangeAnswer (impacting asking)) before (bytes_named files input before) after (bytes_named files input after) answer) asking_is is));
    })
    (λ answer is. record {
      host = host;
      host_is = c.in_ok-host.ensures.opened;
      persons = persons;
      persons_are = persons_are;
      is = subst (λ (before : List ℕ). OfListings (IsChangeBegun (impacting asked)) before (bytes_named files input before) (after_in rows) (bytes_named files input (after_in rows)) answer)
          c.before_field-before.ensures
          (subst (λ (after : List ℕ). OfListings (IsChangeBegun (impacting asked)) before (bytes_named files input before) after (bytes_named files input after) answer) c.after_field-after.ensures
          (subst (λ (asking : ImpactAsking). OfListings (IsChangeBegun (impacting asking)) before (bytes_named files input before) after (bytes_named files input after) answer) asking_is is));
    })
    (λ failure fails. inr (
      once,
      inr (inr (subst (λ (before : List ℕ). FailsForListings before (after_in rows) failure) c.before_field-before.ensures
          (subst (λ (after : List ℕ). FailsForListings before after failure) c.after_field-after.ensures fails))),
    ))
    (λ none. ap (λ (before : List ℕ). inputs_of before + inputs_of after) c.before_field-before.ensures ∙ ap (λ (after : List ℕ). inputs_of (before_in rows) + inputs_of after) c.after_field-after.ensures ∙ none)
    c.report_between.ensures

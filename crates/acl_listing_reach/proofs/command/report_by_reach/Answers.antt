use Rattle.std.proofs.Common.{Err, IfErr, None, Result, Some, rules, ◌≡◌, ◌∙◌, false, List, ap, codes, inl, inr, subst, sym}
use Rattle.std.specs.Prelude.{option_map}
use Rattle.clap.specs.Words.{Row, first_of, found_of, rows_of}
use Rattle.acl_cli.specs.Commands.{Comes, Meaning}
use Rattle.acl_cli.specs.declared.command.Ending.{Ending}
use Rattle.acl_cli.specs.declared.failure.Failure.{Failure}
use Rattle.acl_people.specs.Asked.{persons_in}
use Rattle.acl_people.specs.Host.{Host}
use Rattle.acl_people.specs.Person.{Person}
use Rattle.acl_people.proofs.AskedLemmas.{persons_again}
use Rattle.acl_listing_changes.specs.ChangeMeaning.{after_in, before_in, is_input_twice}
use Rattle.acl_listing_changes.specs.ImpactMeaning.{FailsForImpact}
use Rattle.std.proofs.lemmas.Result.{IfErr-weaker}
use Rattle.acl_listing_changes.proofs.ComesLemmas.{comes_refused}
use Rattle.acl_listing_reach.specs.CommandSteps.{asked_meaning}
use Rattle.acl_listing_reach.specs.ReachMeaning.{AreAskedAfter, FailsForAfter, reach_meaning}
use Rattle.acl_listing_reach.proofs.CommandLemmas.{by_reach, same_after, twice_of}
use Rattle.acl_listing_reach.proofs.command.report_by_reach.Goals as goal

pub returns-in_err-host : goal.returns-in_err-host
returns-in_err-host g c =
    let files = g.F.OpenFiles.bytes_of c.args.files.now in
    let input = g.I.Read.remaining c.args.input.now in
    let rows : List Row = rows_of (found_of c.args.matches.now) in
    let once : is_input_twice (before_in rows) (after_in rows) ≡ false =
    twice_of c.before_field.result.now (before_in rows) c.after_field.result.now (after_in rows) c.before_field.ensures c.after_field.ensures
    c.is_input_twice.result c.is_input_twice.ensures ∙ c.if-is_input_twice.false in
    let fails : IfErr c.read_host.result (λ failure. (reach_meaning files input rows).Fails failure) =
    IfErr-weaker c.read_host.result _ _ (λ failure fails. inl (inr (once, inl fails))) c.read_host.ensures.refused in
    search (rules, fails, comes_refused (reach_meaning files input rows) (g.W.Write.contents c.args.out.now) c.args.err.now c.args.input.now)

pub returns-in_err-people : goal.returns-in_err-people
returns-in_err-people g c =
    let files = g.F.OpenFiles.bytes_of c.args.files.now in
    let input = g.I.Read.remaining c.args.input.now in
    let rows : List Row = rows_of (found_of c.args.matches.now) in
    let once : is_input_twice (before_in rows) (after_in rows) ≡ false =
    twice_of c.before_field.result.now (before_in rows) c.after_field.result.now (after_in rows) c.before_field.ensures c.after_field.ensures
    c.is_input_twice.result c.is_input_twice.ensures ∙ c.if-is_input_twice.false in
    let meaning : Meaning = reach_meaning files input rows in
    let failure : Failure = c.in_err-people.field-0.0 in
    let fails : FailsForImpact files rows failure = inr (once, inr (inl (c.in_ok-host.host, c.in_ok-host.ensures.opened, c.in_err-people.ensures.refused))) in
    let is : c.from_residual-in_err-people.result ≡ Err failure = search rules in
    let out = g.W.Write.contents c.args.out.now in
    let Ends = λ (result : Result Ending Failure). Comes meaning result out out c.args.err.now c.args.err.now c.args.input.now c.args.input.now in
    subst Ends (sym is) (comes_refused meaning out c.args.err.now c.args.input.now failure (inl fails))

pub returns-in_default : goal.returns-in_default
returns-in_default g c =
    let files = g.F.OpenFiles.bytes_of c.args.files.now in
    let input = g.I.Read.remaining c.args.input.now in
    let rows : List Row = rows_of (found_of c.args.matches.now) in
    let once : is_input_twice (before_in rows) (after_in rows) ≡ false =
    twice_of c.before_field.result.now (before_in rows) c.after_field.result.now (after_in rows) c.before_field.ensures c.after_field.ensures
    c.is_input_twice.result c.is_input_twice.ensures ∙ c.if-is_input_twice.false in
    let host : Host = c.in_ok-host.host in
    let (persons, are, persons_are) = c.in_ok-people.ensures.read in
    let same : persons_in c.in_ok-people.people ≡ persons = persons_again persons c.in_ok-people.people are in
    let none : first_of (codes "accounts-after") rows ≡ None = sym c.text_field.ensures ∙ ap (option_map (λ text. text.now)) c.in_default.is in
    let out = g.W.Write.contents c.args.out.now in
    let Ends = λ (persons : List Person). Comes (asked_meaning files input rows host persons host persons) c.report_sides.result out (g.W.Write.contents c.report_sides.new.out)
    c.args.err.now c.report_sides.new.err c.args.input.now c.report_sides.new.input in
    by_reach files input rows host c.in_ok-host.ensures.opened persons persons_are once host persons (same_after files input rows host c.in_ok-host.ensures.opened persons persons_are none)
    c.report_sides.result _ _ _ _ _ _ (subst Ends same c.report_sides.ensures)

pub returns-in_err-other : goal.returns-in_err-other
returns-in_err-other g c =
    let files = g.F.OpenFiles.bytes_of c.args.files.now in
    let input = g.I.Read.remaining c.args.input.now in
    let rows : List Row = rows_of (found_of c.args.matches.now) in
    let meaning : Meaning = reach_meaning files input rows in
    let failure : Failure = c.in_err-other.field-0.0 in
    let named : first_of (codes "accounts-after") rows ≡ Some c.in-Some.name.now = sym c.text_field.ensures ∙ ap (option_map (λ text. text.now)) c.in-Some.is in
    let fails : FailsForAfter files rows failure = rw named (inl c.in_err-other.ensures.refused) in
    let is : c.from_residual-in_err-other.result ≡ Err failure = search rules in
    let out = g.W.Write.contents c.args.out.now in
    let Ends = λ (result : Result Ending Failure). Comes meaning result out out c.args.err.now c.args.err.now c.args.input.now c.args.input.now in
    subst Ends (sym is) (comes_refused meaning out c.args.err.now c.args.input.now failure (inr fails))

pub returns-in_err-others : goal.returns-in_err-others
returns-in_err-others g c =
    let files = g.F.OpenFiles.bytes_of c.args.files.now in
    let input = g.I.Read.remaining c.args.input.now in
    let rows : List Row = rows_of (found_of c.args.matches.now) in
    let meaning : Meaning = reach_meaning files input rows in
    let failure : Failure = c.in_err-others.field-0.0 in
    let (persons, are, persons_are) = c.in_ok-people.ensures.read in
    let named : first_of (codes "accounts-after") rows ≡ Some c.in-Some.name.now = sym c.text_field.ensures ∙ ap (option_map (λ text. text.now)) c.in-Some.is in
    let fails : FailsForAfter files rows failure = rw named (inr (record {
      host = c.in_ok-host.host;
      host_is = c.in_ok-host.ensures.opened;
      persons = persons;
      persons_are = persons_are;
      other = c.in_ok-other.other;
      other_is = c.in_ok-other.ensures.opened;
      refused = c.in_err-others.ensures.refused persons are;
    })) in
    let is : c.from_residual-in_err-others.result ≡ Err failure = search (rules, c.from_residual-in_err-others.ensures, c.in_err-others.is, c.branch-others.ensures) in
    let out = g.W.Write.contents c.args.out.now in
    let Ends = λ (result : Result Ending Failure). Comes meaning result out out c.args.err.now c.args.err.now c.args.input.now c.args.input.now in
    subst Ends (sym is) (comes_refused meaning out c.args.err.now c.args.input.now failure (inr fails))

pub returns : goal.returns
returns g c =
    let files = g.F.OpenFiles.bytes_of c.args.files.now in
    let input = g.I.Read.remaining c.args.input.now in
    let rows : List Row = rows_of (found_of c.args.matches.now) in
    let once : is_input_twice (before_in rows) (after_in rows) ≡ false =
    twice_of c.before_field.result.now (before_in rows) c.after_field.result.now (after_in rows) c.before_field.ensures c.after_field.ensures
    c.is_input_twice.result c.is_input_twice.ensures ∙ c.if-is_input_twice.false in
    let host : Host = c.in_ok-host.host in
    let other : Host = c.in_ok-other.other in
    let (persons, are, persons_are) = c.in_ok-people.ensures.read in
    let (others, others_are, elsewhere) = c.in_ok-others.ensures.read persons are in
    let same : persons_in c.in_ok-people.people ≡ persons = persons_again persons c.in_ok-people.people are in
    let same_others : persons_in c.in_ok-others.others ≡ others = persons_again others c.in_ok-others.others others_are in
    let named : first_of (codes "accounts-after") rows ≡ Some c.in-Some.name.now = sym c.text_field.ensures ∙ ap (option_map (λ text. text.now)) c.in-Some.is in
    let after : AreAskedAfter files rows host persons other others = rw named (c.in_ok-other.ensures.opened, elsewhere) in
    let out = g.W.Write.contents c.args.out.now in
    let Ends = λ (persons others : List Person). Comes (asked_meaning files input rows host persons other others) c.report_sides-2.result out (g.W.Write.contents c.report_sides-2.new.out)
    c.args.err.now c.report_sides-2.new.err c.args.input.now c.report_sides-2.new.input in
    by_reach files input rows host c.in_ok-host.ensures.opened persons persons_are once other others after c.report_sides-2.result _ _ _ _ _ _
    (subst (λ (persons : List Person). Ends persons others) same (subst (λ (others : List Person). Ends (persons_in c.in_ok-people.people) others) same_others c.report_sides-2.ensures))

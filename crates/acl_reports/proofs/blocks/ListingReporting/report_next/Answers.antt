use Rattle.std.proofs.Common.{rules, ◌≡◌, ◌∙◌, true, false, List, ℕ, [], ap, append-nil, subst, sym}
use Rattle.acl_listings.specs.Cursor.{HandsOut, IsOver}
use Rattle.acl_cli.proofs.ReportingLemmas.{if_false, if_true}
use Rattle.acl_people.specs.Host.{names_of_host}
use Rattle.acl_reports.specs.Reporting.{IsListingFailure, Left, left_of}
use Rattle.acl_reports.specs.Listed.{last_lines, reported_of}
use Rattle.acl_reports.proofs.BlocksLemmas.{IsNext, begun_closed, begun_closing, begun_now, begun_on, ends_closing, reported_closing, reported_on}
use Rattle.acl_reports.proofs.blocks.ListingReporting.report_next.Goals as goal

pub returns-in_err-report_here-clause-stays : goal.returns-in_err-report_here-clause-stays
returns-in_err-report_here-clause-stays g c = λ failure fails. subst (λ (name : List ℕ). IsListingFailure name failure) (ap (λ name. name.now) c.report_here.ensures.name) fails

pub returns-then-branch-clause-reported : goal.returns-then-branch-clause-reported
returns-then-branch-clause-reported g c =
    let Stands = g.T.BlockReporter.Stands in
    let part = g.T.BlockReporter.part in
    let stranger = g.T.BlockReporter.stranger in
    let was = c.args.self.now in
    let now = c.report_here.new.self in
    let block = c.advance.new.blocks.block in
    let some : c.in_ok-advance.field-0 ≡ true = search rules in
    let rest = c.in_ok-report_here.ensures.rest in
    let left : Left = left_of part stranger was in
    let next : Left = left_of part stranger now in
    let hands : HandsOut was.blocks.coming block c.advance.new.blocks.coming = if_true _ _ _ some c.in_ok-advance.ensures.block in
    let is : IsNext (Stands was.reporter) (Stands now.reporter) left next block c.args.out.now.items c.report_here.new.out.items c.args.beside.now.items c.report_here.new.beside.items =
    record {
      was_open = c.if-self.false;
      still = ap (λ l. l.closed) rest ∙ c.if-self.false;
      name = ap (λ l. l.name.now) rest;
      names = ap (λ l. names_of_host l.host.now) rest;
      part = c.in_ok-report_here.ensures.same;
      stranger = c.in_ok-report_here.ensures.same_strangers;
      hands = subst (HandsOut was.blocks.coming block) (sym (ap (λ l. l.blocks.coming) rest)) hands;
      stands = c.in_ok-report_here.ensures.stands;
      done = c.in_ok-report_here.ensures.reported;
    } in
    let (witness, there) = c.requires.0 in
    let done = is.done witness there in (
      reported_of (part was.reporter witness block.text),
      done.said,
      done.text,
      done.beside_is,
      reported_on (Stands was.reporter) (Stands now.reporter) left next block _ _ _ _ is witness there,
      begun_on (Stands was.reporter) (Stands now.reporter) left next block _ _ _ _ is witness there,
      begun_now (Stands was.reporter) (Stands now.reporter) left next block _ _ _ _ is witness there,
    )

pub returns-clause-reported : goal.returns-clause-reported
returns-clause-reported g c =
    let Stands = g.T.BlockReporter.Stands c.args.self.now.reporter in
    let left : Left = left_of g.T.BlockReporter.part g.T.BlockReporter.stranger c.args.self.now in
    let coming = c.advance.new.blocks.coming in
    let none : c.in_ok-advance.field-0 ≡ false = search rules in
    let over : IsOver left.coming = if_false _ _ _ none c.in_ok-advance.ensures.block in
    let (witness, there) = c.requires.0 in (
      [],
      last_lines left.name left.tally left.strangers,
      sym (append-nil c.args.out.now.items),
      c.in_ok-push_last.ensures,
      reported_closing Stands left coming c.if-self.false over,
      begun_closing Stands left coming c.if-self.false over witness there,
      begun_closed Stands left coming c.if-self.false over witness there,
    )

pub returns-clause-ends : goal.returns-clause-ends
returns-clause-ends g c =
    let left : Left = left_of g.T.BlockReporter.part g.T.BlockReporter.stranger c.args.self.now in
    let none : c.in_ok-advance.field-0 ≡ false = search rules in
    let over : IsOver left.coming = if_false _ _ _ none c.in_ok-advance.ensures.block in
    ends_closing (g.T.BlockReporter.Stands c.args.self.now.reporter) left c.advance.new.blocks.coming c.if-self.false over

use Rattle.std.proofs.Common.{rules, ◌≡◌, true, false, List, ℕ, [], ap, append-nil, refl, subst, sym}
use Rattle.acl_listings.specs.Cursor.{HandsOut, IsOver}
use Rattle.acl_cli.proofs.ReportingLemmas.{if_false, if_true}
use Rattle.acl_reports.specs.Listed.{closing, reported_of}
use Rattle.acl_reports.specs.Reporting.{IsListingFailure}
use Rattle.acl_listing_lint.specs.LintSteps.{Left, left_of}
use Rattle.acl_listing_lint.proofs.LintLemmas.{IsNext, begun_closing, begun_nothing, begun_on, ends_closing, ends_on, next_by, reported_closing, reported_on}
use Rattle.acl_listing_lint.proofs.report.LintingReporting.report_next.Goals as goal

pub returns-in_err-report_here-clause-stays : goal.returns-in_err-report_here-clause-stays
returns-in_err-report_here-clause-stays g c = λ failure fails. subst (λ (name : List ℕ). IsListingFailure name failure) (ap (λ name. name.now) c.report_here.ensures.name) fails

pub returns-then-branch-clause-reported : goal.returns-then-branch-clause-reported
returns-then-branch-clause-reported g c =
    let left : Left = left_of c.args.self.now in
    let next : Left = left_of c.report_here.new.self in
    let block = c.advance.new.blocks.block in
    let some : c.in_ok-advance.field-0 ≡ true = search rules in
    let hands : HandsOut left.coming block c.advance.new.blocks.coming = if_true _ _ _ some c.in_ok-advance.ensures.block in
    let is : IsNext left next block c.args.out.now.items c.report_here.new.out.items c.args.beside.now.items c.report_here.new.beside.items =
    next_by left next c.advance.new.blocks.coming block _ _ _ _ c.if-self.false hands (ap left_of c.in_ok-report_here.ensures.rest) c.in_ok-report_here.ensures.reported in (
      reported_of is.done.part,
      is.done.done.said,
      is.done.done.text,
      is.done.done.beside_is,
      reported_on left next block _ _ _ _ is,
      begun_on left next block _ _ _ _ is,
      begun_nothing next next.closed,
    )

pub returns-then-branch-clause-ends : goal.returns-then-branch-clause-ends
returns-then-branch-clause-ends g c =
    let left : Left = left_of c.args.self.now in
    let next : Left = left_of c.report_here.new.self in
    let block = c.advance.new.blocks.block in
    let some : c.in_ok-advance.field-0 ≡ true = search rules in
    let hands : HandsOut left.coming block c.advance.new.blocks.coming = if_true _ _ _ some c.in_ok-advance.ensures.block in
    ends_on left next block _ _ _ _
    (next_by left next c.advance.new.blocks.coming block _ _ _ _ c.if-self.false hands (ap left_of c.in_ok-report_here.ensures.rest) c.in_ok-report_here.ensures.reported)

pub returns-clause-reported : goal.returns-clause-reported
returns-clause-reported g c =
    let left : Left = left_of c.args.self.now in
    let coming = c.advance.new.blocks.coming in
    let none : c.in_ok-advance.field-0 ≡ false = search rules in
    let over : IsOver left.coming = if_false _ _ _ none c.in_ok-advance.ensures.block in (
      [],
      closing left.asking.name left.tally,
      sym (append-nil c.args.out.now.items),
      c.in_ok-push_closing.ensures,
      reported_closing left coming c.if-self.false over,
      begun_closing left coming c.if-self.false over,
      (refl, refl),
    )

pub returns-clause-ends : goal.returns-clause-ends
returns-clause-ends g c =
    let left : Left = left_of c.args.self.now in
    let none : c.in_ok-advance.field-0 ≡ false = search rules in
    let over : IsOver left.coming = if_false _ _ _ none c.in_ok-advance.ensures.block in
    ends_closing left c.advance.new.blocks.coming c.if-self.false over

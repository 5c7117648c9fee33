use Rattle.std.proofs.Common.{rules, ◌≡◌, ◌∙◌, None, Option, Some, ap, is_none, option_and_then, option_map, subst, sym, IfOk, List, ℕ}
use Rattle.std.specs.Prelude.{slice_get}
use Rattle.acl_listings.specs.Listing.{Block}
use Rattle.acl_reports.specs.Paths.{block_for}
use Rattle.acl_listing_changes.specs.ChangeSteps.{Appended, IsKnown}
use Rattle.acl_listing_changes.specs.Changes.{ReportsIf, ReportsOld, ReportsSince}
use Rattle.acl_listing_changes.specs.Kept.{block_of}
use Rattle.acl_listing_changes.specs.declared.between.reporter.Found.{Found}
use Rattle.acl_listing_changes.proofs.PlacesLemmas.{found_there}
use Rattle.acl_listing_changes.proofs.between.sides.Sides.push_since.Goals as goal

pub returns-in-None-clause-reported : goal.returns-in-None-clause-reported
returns-in-None-clause-reported g c = λ at.
    let wording = g.C.ChangeReporter.wording c.args.self.now.reporter.now in
    let before = c.args.self.now.before.now in
    let text = c.args.text.now in
    let none : c.block_at.result ≡ None = search rules in
    let is : block_for before text ≡ None =
    sym (found_there before text) ∙ ap (option_and_then (slice_get before)) (sym at) ∙ sym c.block_at.ensures ∙ ap (option_map (λ block. block_of block.now)) none in
    subst (λ (was : Option Block). IfOk c.push_new.result (λ (found : Found). Appended (ReportsIf (is_none found.fault) (ReportsSince wording was text)) c.args.out.now.items c.push_new.new.out.items
    c.args.beside.now.items c.push_new.new.beside.items)) (sym is) c.push_new.ensures.reported

pub returns-in-Some-clause-reported : goal.returns-in-Some-clause-reported
returns-in-Some-clause-reported g c = λ at.
    let wording = g.C.ChangeReporter.wording c.args.self.now.reporter.now in
    let before = c.args.self.now.before.now in
    let text = c.args.text.now in
    let block : Block = block_of c.in-Some.old.now in
    let some : c.block_at.result ≡ Some c.in-Some.old = search rules in
    let is : block_for before text ≡ Some block =
    sym (found_there before text) ∙ ap (option_and_then (slice_get before)) (sym at) ∙ sym c.block_at.ensures ∙ ap (option_map (λ block. block_of block.now)) some in
    let reported = subst (λ (old : List ℕ). IfOk c.push_changed.result (λ (found : Found). Appended (ReportsIf (is_none found.fault) (ReportsOld wording old text)) c.args.out.now.items c.push_changed.new.out.items
    c.args.beside.now.items c.push_changed.new.beside.items)) c.as_slice-old.ensures.value c.push_changed.ensures.reported in
    subst (λ (was : Option Block). IfOk c.push_changed.result (λ (found : Found). Appended (ReportsIf (is_none found.fault) (ReportsSince wording was text)) c.args.out.now.items c.push_changed.new.out.items
    c.args.beside.now.items c.push_changed.new.beside.items)) (sym is) reported

pub push_changed-requires : goal.push_changed-requires
push_changed-requires g c =
    let wording = g.C.ChangeReporter.wording c.args.self.now.reporter.now in
    let some : c.block_at.result ≡ Some c.in-Some.old = search rules in
    let there = sym c.block_at.ensures ∙ ap (option_map (λ block. block_of block.now)) some in
    let known = subst (IsKnown wording (block_of c.in-Some.old.now).text) (sym c.known_at-known.ensures) (c.args.self.now.are_known c.args.place (block_of c.in-Some.old.now) there) in
    subst (λ (text : List ℕ). IsKnown wording text c.known_at-known.result) (sym c.as_slice-old.ensures.value) known

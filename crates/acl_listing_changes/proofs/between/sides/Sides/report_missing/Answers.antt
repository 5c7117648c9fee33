use Rattle.std.proofs.Common.{rules, ◌≡◌, ◌∙◌, true, false, None, Some, ap, get_or, option_map, subst, sym}
use Rattle.std.specs.Prelude.{slice_get}
use Rattle.std.proofs.lemmas.Result.{on_ok_weaker}
use Rattle.acl_listings.specs.Listing.{Block}
use Rattle.acl_listing_changes.specs.ChangeSteps.{Appended}
use Rattle.acl_listing_changes.specs.Changes.{ReportsIf}
use Rattle.acl_listing_changes.specs.Kept.{block_of, is_earlier, place_of}
use Rattle.acl_listing_changes.proofs.SidesLemmas.{nothing_met, nothing_repeated, nothing_there, reported_gone}
use Rattle.acl_listing_changes.proofs.between.sides.Sides.report_missing.Goals as goal
use Rattle.std.specs.Option.{is_none}

pub returns-then-is_met : goal.returns-then-is_met
returns-then-is_met g c =
    let met : get_or c.args.seen.now.met c.args.place false ≡ true = sym c.is_met.ensures ∙ c.if-is_met.true in
    nothing_met (g.C.ChangeReporter.wording c.args.self.now.reporter.now) c.args.self.now.before.now c.args.seen.now.met c.args.place met c.args.out.now.items c.args.beside.now.items

pub returns-in_default : goal.returns-in_default
returns-in_default g c =
    let none : c.block.result ≡ None = search rules in
    nothing_there (g.C.ChangeReporter.wording c.args.self.now.reporter.now) c.args.self.now.before.now c.args.seen.now.met c.args.place (sym c.block.ensures ∙ ap (option_map (λ block. block_of block.now)) none) c.args.out.now.items
    c.args.beside.now.items

pub returns-then-repeats : goal.returns-then-repeats
returns-then-repeats g c =
    let before = c.args.self.now.before.now in
    let block : Block = block_of c.in-Some.block.now in
    let some : c.block.result ≡ Some c.in-Some.block = search rules in
    let at : slice_get before c.args.place ≡ Some block = sym c.block.ensures ∙ ap (option_map (λ block. block_of block.now)) some in
    let repeats : is_earlier c.args.place (place_of before block.text) ≡ true =
    ap (λ text. is_earlier c.args.place (place_of before text)) (sym c.as_slice-text.ensures.value) ∙ sym c.repeats.ensures ∙ c.if-repeats.true in
    nothing_repeated (g.C.ChangeReporter.wording c.args.self.now.reporter.now) before c.args.seen.now.met c.args.place block at repeats c.args.out.now.items c.args.beside.now.items

pub returns : goal.returns
returns g c =
    let before = c.args.self.now.before.now in
    let wording = g.C.ChangeReporter.wording c.args.self.now.reporter.now in
    let block : Block = block_of c.in-Some.block.now in
    let some : c.block.result ≡ Some c.in-Some.block = search rules in
    let at : slice_get before c.args.place ≡ Some block = sym c.block.ensures ∙ ap (option_map (λ block. block_of block.now)) some in
    let unmet : get_or c.args.seen.now.met c.args.place false ≡ false = sym c.is_met.ensures ∙ c.if-is_met.false in
    let once : is_earlier c.args.place (place_of before block.text) ≡ false =
    ap (λ text. is_earlier c.args.place (place_of before text)) (sym c.as_slice-text.ensures.value) ∙ sym c.repeats.ensures ∙ c.if-repeats.false in
    on_ok_weaker c.push_gone.result
    (λ reported. reported_gone wording before c.args.seen.now.met c.args.place block at unmet once _ _ _ _
    (subst (λ text. Appended (ReportsIf (is_none (wording.fault text)) (wording.IsGone text)) c.args.out.now.items c.push_gone.new.out.items c.args.beside.now.items c.push_gone.new.beside.items)
    c.as_slice-text.ensures.value reported))
    c.push_gone.ensures

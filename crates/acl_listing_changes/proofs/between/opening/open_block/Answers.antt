use Rattle.std.proofs.Common.{rules, ◌≡◌, ◌∙◌, ◌+◌, ◌++◌, ◌∷◌, [], List, ℕ, Some, ap, is_some, length, length-append, option_map, subst, sym}
use Rattle.std.specs.Prelude.{slice_get}
use Rattle.acl_listings.specs.Listing.{Block}
use Rattle.acl_reports.specs.Listed.{IsSaid, counted}
use Rattle.acl_reports.specs.Strangers.{with_stranger}
use Rattle.acl_listing_changes.specs.ChangeSteps.{AreKnown, IsKnown, known_by}
use Rattle.acl_listing_changes.specs.Changes.{part_of, unless_repeated}
use Rattle.acl_listing_changes.specs.Kept.{block_of, is_earlier, place_of}
use Rattle.acl_listing_changes.specs.declared.between.known.Known.{Known}
use Rattle.acl_listing_changes.specs.declared.between.reporter.Found.{Found}
use Rattle.acl_listing_changes.proofs.OpeningLemmas.{known_more, known_rightly, opened_to_more}
use Rattle.acl_listing_changes.proofs.between.opening.open_block.Goals as goal

pub returns-clause-more : goal.returns-clause-more
returns-clause-more g c = λ within was.
    let wording = g.C.ChangeReporter.wording c.args.reporter.now in
    let kept = c.args.kept.now in
    let block : Block = block_of c.in-Some.block.now in
    let some : c.block.result ≡ Some c.in-Some.block = search rules in
    let at : slice_get kept c.args.place ≡ Some block = sym c.block.ensures ∙ ap (option_map (λ block. block_of block.now)) some in
    let text : c.as_slice-text.result.now ≡ block.text = c.as_slice-text.ensures.value in
    let repeated : c.repeats-repeated.result ≡ is_earlier c.args.place (place_of kept block.text) = c.repeats-repeated.ensures ∙ ap (λ text. is_earlier c.args.place (place_of kept text)) text in
    let fault : c.in_ok-found.found.fault ≡ unless_repeated (is_earlier c.args.place (place_of kept block.text)) (wording.fault block.text) =
    c.in_ok-found.ensures.fault ∙ ap (λ b. unless_repeated b (wording.fault c.as_slice-text.result.now)) repeated
    ∙ ap (λ text. unless_repeated (is_earlier c.args.place (place_of kept block.text)) (wording.fault text)) text in
    let said = subst (λ (text : List ℕ). (said : List ℕ) × IsSaid c.args.name.now wording.names (record { line = block.line; text = text }) (part_of c.in_ok-found.found.fault) said
    × (c.say_block.new.out.items ≡ c.args.said.now.items ++ said)) text c.in_ok-found.ensures.said in
    let was_counts = c.args.counts.now in
    let counts : c.add.new.self.tally ≡ counted was_counts.tally block.text c.in_ok-found.found.fault =
    c.in_ok-add.ensures.tally ∙ ap (λ text. counted was_counts.tally text c.in_ok-found.found.fault) text in
    let named = c.sighting_of-sighting.ensures c.in_ok-found.ensures.strange in
    let strangers : c.add.new.self.strangers ≡ with_stranger was_counts.strangers block.line (wording.stranger block.text) =
    c.in_ok-add.ensures.strangers (wording.stranger c.as_slice-text.result.now) named ∙ ap (λ text. with_stranger was_counts.strangers block.line (wording.stranger text)) text in
    opened_to_more wording c.args.name.now kept c.args.place block c.args.said.now.items was_counts.tally was_counts.strangers at was c.in_ok-found.found.fault fault said.0 c.say_block.new.out.items said.1 said.2
    c.add.new.self.tally counts c.add.new.self.strangers strangers

pub returns-clause-known : goal.returns-clause-known
returns-clause-known g c = λ within count was.
    let wording = g.C.ChangeReporter.wording c.args.reporter.now in
    let kept = c.args.kept.now in
    let all = c.args.known.now.items in
    let found : Found = c.in_ok-found.found in
    let block : Block = block_of c.in-Some.block.now in
    let some : c.block.result ≡ Some c.in-Some.block = search rules in
    let at : slice_get kept c.args.place ≡ Some block = sym c.block.ensures ∙ ap (option_map (λ block. block_of block.now)) some in
    let fault : found.fault ≡ unless_repeated c.repeats-repeated.result (wording.fault block.text) =
    c.in_ok-found.ensures.fault ∙ ap (λ text. unless_repeated c.repeats-repeated.result (wording.fault text)) c.as_slice-text.ensures.value in
    let named : found.strange ≡ is_some (wording.stranger block.text) = c.in_ok-found.ensures.strange ∙ ap (λ text. is_some (wording.stranger text)) c.as_slice-text.ensures.value in
    let one : Known = known_by found.fault found.strange in
    let is : IsKnown wording block.text one = known_rightly wording kept block.text c.repeats-repeated.result found.fault fault found.strange named in
    let grown = known_more wording kept c.args.place block all count at was one is in
    let pushed : c.push.new.self.items ≡ all ++ one ∷ [] = c.in_ok-push.ensures.items ∙ ap (λ mark. all ++ mark ∷ []) c.known_by.ensures in
    (subst (AreKnown wording kept) (sym pushed) grown, ap length pushed ∙ length-append all (one ∷ []) ∙ ap (λ n. n + 1) count)

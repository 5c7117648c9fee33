use Rattle.std.proofs.Common.{rules, ◌≡◌, ◌∙◌, ◌<◌, ◌≤◌, ◌++◌, List, ℕ, ap, arith, get_or, length, map}
use Rattle.std.specs.List.{enumerate_from, flat_map}
use Rattle.std.proofs.lemmas.List.{length-map, take_all}
use Rattle.acl_access.proofs.ReachLemmas.{next_reported}
use Rattle.acl_listing_queries.specs.WhoSteps.{reported_at}
use Rattle.acl_listing_queries.specs.WhoText.{letters_line_if}
use Rattle.acl_listing_queries.proofs.LinesLemmas.{name_at}
use Rattle.acl_listing_queries.proofs.who.lines.push_letters_lines.Goals as goal

pub loop-place-preserved : goal.loop-place-preserved
loop-place-preserved g c =
    let names : List (List ℕ) = map (λ name. name.items) c.args.names.now in
    let at = c.loop-place.place in
    let name = c.index-names-place.result in
    let within : at < length c.args.names.now = search rules in
    let here : get_or c.args.names.now at name ≡ name = search rules in
    let f = reported_at (letters_line_if g.L.LetterSet.text c.args.path.now) (map g.L.LetterSet.number c.args.letters.now) c.args.reach.now in
    let more : c.push_letters_if.new.out.items ≡ c.loop-place.out.items ++ f (at, name.items) = search rules in
    next_reported names at name.items (omega (arith, within, length-map c.args.names.now (λ name. name.items))) (name_at c.args.names.now at name here) f c.args.out.now.items c.loop-place.out.items _ c.loop-place.invariant more

pub returns : goal.returns
returns g c =
    let names : List (List ℕ) = map (λ name. name.items) c.args.names.now in
    let f = reported_at (letters_line_if g.L.LetterSet.text c.args.path.now) (map g.L.LetterSet.number c.args.letters.now) c.args.reach.now in
    let all : length names ≤ c.loop-place.place = omega (arith, c.loop-place-test.false, length-map c.args.names.now (λ name. name.items)) in
    c.loop-place.invariant ∙ ap (λ names. c.args.out.now.items ++ flat_map f (enumerate_from 0 names)) (take_all c.loop-place.place names all)

use Rattle.std.proofs.Common.{rules, ◌≡◌, ◌∙◌, ◌<◌, ◌≤◌, ◌++◌, List, Option, ℕ, ap, arith, get_or, length, map, option_map}
use Rattle.std.specs.List.{enumerate_from, flat_map}
use Rattle.std.proofs.lemmas.List.{length-map, take_all}
use Rattle.acl_access.proofs.ReachLemmas.{next_reported}
use Rattle.acl_listing_queries.specs.ViaSteps.{decided_line_at, decided_line_if, shown_decided, shown_if}
use Rattle.acl_listing_queries.proofs.LinesLemmas.{name_at}
use Rattle.acl_listing_queries.proofs.who.decided.push_decided_lines.Goals as goal

pub loop-place-preserved : goal.loop-place-preserved
loop-place-preserved c =
    let names : List (List ℕ) = map (λ name. name.items) c.args.names.now in
    let at = c.loop-place.place in
    let name = c.index-names-place.result in
    let within : at < length c.args.names.now = search rules in
    let here : get_or c.args.names.now at name ≡ name = search rules in
    let f = decided_line_at c.args.path.now (map shown_if c.args.decided.now) c.args.reach.now in
    let shown : Option (List ℕ × List ℕ) = option_map (λ decided. shown_decided decided.now) c.decided_at-here.result in
    let more : c.push_decided_if.new.out.items ≡ c.loop-place.out.items ++ f (at, name.items) =
    c.in_ok-push_decided_if.ensures
    ∙ ap (λ name. c.loop-place.out.items ++ decided_line_if c.args.path.now name shown) c.as_slice.ensures.value
    ∙ ap (λ decided. c.loop-place.out.items ++ decided_line_if c.args.path.now name.items decided) c.decided_at-here.ensures in
    next_reported names at name.items (omega (arith, within, length-map c.args.names.now (λ name. name.items))) (name_at c.args.names.now at name here) f c.args.out.now.items c.loop-place.out.items _ c.loop-place.invariant more

pub returns : goal.returns
returns c =
    let names : List (List ℕ) = map (λ name. name.items) c.args.names.now in
    let f = decided_line_at c.args.path.now (map shown_if c.args.decided.now) c.args.reach.now in
    let all : length names ≤ c.loop-place.place = omega (arith, c.loop-place-test.false, length-map c.args.names.now (λ name. name.items)) in
    c.loop-place.invariant ∙ ap (λ names. c.args.out.now.items ++ flat_map f (enumerate_from 0 names)) (take_all c.loop-place.place names all)

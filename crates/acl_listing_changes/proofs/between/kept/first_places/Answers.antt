use Rattle.std.proofs.Common.{rules, ◌≡◌, ◌∙◌, ◌-◌, ◌≤◌, ℕ, cond, List, None, Some, ap, arith, bytes_eq}
use Rattle.std.proofs.Common.{length, map, option_map, subst, sym}
use Rattle.std.specs.HashMap.{get_by}
use Rattle.std.specs.Borrow.{Bor}
use Rattle.std.specs.Map.{lookup}
use Rattle.std.specs.Cmp.Lexicographic.{nat_list_eq_equiv}
use Rattle.std.proofs.lemmas.List.{length-map}
use Rattle.std.proofs.lemmas.Map.Text.{hash_map_updates_str}
use Rattle.acl_listings.specs.Block.{path_of}
use Rattle.acl_listings.specs.Listing.{Block}
use Rattle.acl_reports.specs.Paths.{has_path}
use Rattle.acl_listing_changes.specs.Kept.{block_of}
use Rattle.acl_listing_changes.proofs.PlacesLemmas.{first_from, from_end, from_front, one_before}
use Rattle.acl_listing_changes.proofs.between.kept.first_places.Goals as goal

pub loop-place-init : goal.loop-place-init
loop-place-init c =
    let blocks = c.args.blocks.now in
    let all : List Block = map block_of blocks in
    let count = length blocks in
    let fits : count ≤ count = omega arith in
    let past : length all ≤ count = subst (λ n. n ≤ count) (sym (length-map blocks block_of)) fits in
    record {
      within = fits;
      first = λ path.
          let none : get_by (λ key. bytes_eq path key.now) c.in_ok-places.places ≡ None = ap (λ entries. lookup {K = Bor (List ℕ)} {X = ℕ} (λ key. bytes_eq path key.now) entries) c.in_ok-places.ensures.empty in
          none ∙ sym (from_end (has_path path) all count past);
    }

pub loop-place-preserved-in_ok-insert : goal.loop-place-preserved-in_ok-insert
loop-place-preserved-in_ok-insert c =
    let kept = c.index-blocks-place.result in
    let at = c.loop-place.place - 1 in
    let key : List ℕ = c.in-Some.path.now in
    let text : path_of c.as_slice.result.now ≡ path_of kept.text.items = ap path_of (c.as_slice.ensures.value ∙ ap (λ (k : _). k.text.items) (sym c.index-blocks-place.is)) in
    let is : path_of kept.text.items ≡ Some key = sym text ∙ sym c.path_of.ensures ∙ ap (option_map (λ path. path.now)) c.in-Some.is in
    record {
      within = omega (arith, c.loop-place.invariant.within);
      first = λ path.
          hash_map_updates_str key c.loop-place.places c.insert.new.self (Some at) c.in_ok-insert.ensures.updates path
          ∙ ap (λ b. cond b (Some at) (get_by (λ key. bytes_eq path key.now) c.loop-place.places)) (nat_list_eq_equiv.symm key path)
          ∙ ap (λ found. cond (bytes_eq path key) (Some at) found) (c.loop-place.invariant.first path)
          ∙ sym (one_before c.args.blocks.now c.loop-place.place kept c.loop-place-test.true c.loop-place.invariant.within (sym c.index-blocks-place.is) path (Some key) is);
    }

pub loop-place-preserved : goal.loop-place-preserved
loop-place-preserved c =
    let kept = c.index-blocks-place.result in
    let text : path_of c.as_slice.result.now ≡ path_of kept.text.items = ap path_of (c.as_slice.ensures.value ∙ ap (λ (k : _). k.text.items) (sym c.index-blocks-place.is)) in
    let none : c.path_of.result ≡ None = search rules in
    let is : path_of kept.text.items ≡ None = sym text ∙ sym c.path_of.ensures ∙ ap (option_map (λ path. path.now)) none in
    record {
      within = omega (arith, c.loop-place.invariant.within);
      first = λ path.
          c.loop-place.invariant.first path
          ∙ sym (one_before c.args.blocks.now c.loop-place.place kept c.loop-place-test.true c.loop-place.invariant.within (sym c.index-blocks-place.is) path None is);
    }

pub returns : goal.returns
returns c = λ path.
    let all : List Block = map block_of c.args.blocks.now in
    let front : c.loop-place.place ≡ 0 = omega (arith, c.loop-place-test.false) in
    c.loop-place.invariant.first path ∙ ap (first_from (has_path path) all) front ∙ from_front (has_path path) all

use Rattle.std.proofs.Common.{rules, ◌≡◌, ◌∙◌, ◌<◌, ◌+◌, ◌++◌, ◌∷◌, [], List, None, Some, ap, get_or, length, map, option_map, subst, sym, take}
use Rattle.std.proofs.lemmas.List.{get_or-map, length-map, take_more}
use Rattle.acl_listings.specs.Block.{path_of}
use Rattle.acl_listings.specs.Listing.{Block}
use Rattle.acl_reports.specs.Paths.{first_path}
use Rattle.acl_listing_changes.specs.Kept.{block_of}
use Rattle.acl_listing_changes.proofs.FirstPathLemmas.{first_there, none_so_far}
use Rattle.acl_listing_changes.proofs.between.kept.KeptListing.first_path.Goals as goal

pub returns-in-Some : goal.returns-in-Some
returns-in-Some c =
    let blocks = c.self.inside.blocks.now in
    let all : List Block = map block_of blocks in
    let view : c.args.self.now ≡ all = search rules in
    let at = c.loop-place.place in
    let kept = c.index-self-place.result in
    let block : Block = block_of kept in
    let within : at < length all = subst (λ n. at < n) (sym (length-map blocks block_of)) c.loop-place-test.true in
    let here : get_or all at block ≡ block = get_or-map block_of blocks at kept block c.loop-place-test.true ∙ ap block_of (sym c.index-self-place.is) in
    let grown : take (at + 1) all ≡ take at all ++ block ∷ [] = take_more all at block within ∙ ap (λ one. take at all ++ one ∷ []) here in
    let text : path_of c.as_slice.result.now ≡ path_of block.text = ap path_of (c.as_slice.ensures.value ∙ ap (λ (k : _). k.text.items) (sym c.index-self-place.is)) in
    let found : path_of block.text ≡ Some c.in-Some.path.now = sym text ∙ sym c.path_of.ensures ∙ ap (option_map (λ path. path.now)) c.in-Some.is in
    let none : first_path (take at all) ≡ None = ap (λ blocks. first_path (take at blocks)) (sym view) ∙ c.loop-place.invariant in
    sym (ap first_path view ∙ first_there all at (at + 1) block grown none c.in-Some.path.now found)

pub loop-place-preserved : goal.loop-place-preserved
loop-place-preserved c =
    let blocks = c.self.inside.blocks.now in
    let all : List Block = map block_of blocks in
    let view : c.args.self.now ≡ all = search rules in
    let at = c.loop-place.place in
    let kept = c.index-self-place.result in
    let block : Block = block_of kept in
    let within : at < length all = subst (λ n. at < n) (sym (length-map blocks block_of)) c.loop-place-test.true in
    let here : get_or all at block ≡ block = get_or-map block_of blocks at kept block c.loop-place-test.true ∙ ap block_of (sym c.index-self-place.is) in
    let grown : take (at + 1) all ≡ take at all ++ block ∷ [] = take_more all at block within ∙ ap (λ one. take at all ++ one ∷ []) here in
    let text : path_of c.as_slice.result.now ≡ path_of block.text = ap path_of (c.as_slice.ensures.value ∙ ap (λ (k : _). k.text.items) (sym c.index-self-place.is)) in
    let lacks : c.path_of.result ≡ None = search rules in
    let found : path_of block.text ≡ None = sym text ∙ sym c.path_of.ensures ∙ ap (option_map (λ path. path.now)) lacks in
    let none : first_path (take at all) ≡ None = ap (λ blocks. first_path (take at blocks)) (sym view) ∙ c.loop-place.invariant in
    ap (λ blocks. first_path (take (at + 1) blocks)) view ∙ none_so_far all at (at + 1) block grown none found

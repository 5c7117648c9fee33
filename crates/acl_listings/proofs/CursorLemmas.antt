-- What a cursor hands out of the bytes that are still to come.
use Rattle.std.proofs.Common.{◌≡◌, ℕ, ◌+◌, ◌≤◌, ◌<◌, false, cond, List, [], ◌∷◌, ◌++◌, length, map, drop}
use Rattle.std.proofs.Common.{take, Option, Some, None, IfSome, ap, ap₂, sym, ◌∙◌, append_assoc}
use Rattle.std.proofs.Common.{length-append, arith, subst, lt-ltb}
use Rattle.std.specs.Io.KnownBytes.{Keeps, prepend_known}
use Rattle.std.proofs.lemmas.List.{drop-append-le, take-append-le, take_all}
use Rattle.std.proofs.Math.Seq.{drop-append_seam, take-append_seam}
use Rattle.acl_listings.specs.Cursor.{HandsOut, blocks_to_come, as_handed_out, blocks_handed_from}
use Rattle.acl_listings.specs.Extent.{HasFullLines, IsExtent, newlines_in}
use Rattle.acl_listings.specs.Listing.{Block}
use Rattle.acl_listings.specs.Steps.{GoesOn, text_at_hand}
use Rattle.acl_listings.specs.declared.limits.TheConstants.{MAX_BLOCK}
use Rattle.acl_listings.proofs.ExtentLemmas.{full-append, newlines-append}
use Rattle.acl_listings.proofs.ListingLemmas.{blocks-first}

full-some : (block : List ℕ) → HasFullLines block → 0 < length block
full-some [] full = cc
full-some (byte ∷ bytes) full = omega arith

abbrev block_at : ℕ → List ℕ → Block
block_at n text = record { line = n; text = text }

-- a block that isn't too long
pub hands_short : (first : ℕ) (shown head : List ℕ) (left : Option (List ℕ)) (len newlines : ℕ) → IsExtent shown len newlines
    → IfSome (prepend_known shown left) (λ text. IsExtent text len newlines) → len ≤ MAX_BLOCK
    → HandsOut (blocks_to_come first (prepend_known shown left)) (block_at first (text_at_hand len shown head)) (blocks_to_come (first + newlines) (prepend_known (drop len shown) left))
hands_short first shown head None len newlines here is short = tt
hands_short first shown head (Some reported) len newlines here is short =
    let block = is.block in
    let within : len ≤ length shown = omega (arith, ap length here.cut, length-append here.block here.rest, here.bytes) in
    let some : 0 < len = omega (arith, full-some block is.full, is.bytes) in
    let shown_are : take len shown ≡ block =
    sym (take-append-le len shown reported within) ∙ ap₂ (λ n text. take n text) (sym is.bytes) is.cut ∙ take-append_seam block is.rest in
    let rest_is : is.rest ≡ drop len shown ++ reported =
    sym (drop-append_seam block is.rest) ∙ ap₂ (λ n text. drop n text) is.bytes (sym is.cut) ∙ drop-append-le len shown reported within in
    let text_is : take (MAX_BLOCK + 1) block ≡ text_at_hand len shown head =
    take_all (MAX_BLOCK + 1) block (omega (arith, short, is.bytes)) ∙ sym shown_are ∙ ap (λ b. cond b (take len shown) head) (sym (lt-ltb 0 len some)) in
    ap (blocks_handed_from first) is.cut
    ∙ ap (map as_handed_out) (blocks-first first block is.full is.rest is.ends)
    ∙ ap (λ n. as_handed_out (block_at first block) ∷ blocks_handed_from (first + n) is.rest) is.counted
    ∙ ap₂ (λ text rest. block_at first text ∷ blocks_handed_from (first + newlines) rest) text_is rest_is

-- the same before more was read
pub hands_kept : (first : ℕ) (before after : Option (List ℕ)) (block : Block) (more : Option (List Block)) → Keeps before after
    → HandsOut (blocks_to_come first after) block more → HandsOut (blocks_to_come first before) block more
hands_kept first None after block more kept hands = tt
hands_kept first (Some reported) None block more kept hands = absurd kept
hands_kept first (Some reported) (Some rest) block more kept hands = subst (λ text. HandsOut (blocks_to_come first (Some text)) block more) kept hands

-- one that is too long
pub hands_long : (first : ℕ) (shown : List ℕ) (left : Option (List ℕ)) (after : Option (List ℕ)) (len newlines last : ℕ) → IsExtent shown len newlines → MAX_BLOCK < len
    → GoesOn (prepend_known (drop len shown) left) after (first + newlines) last
    → HandsOut (blocks_to_come first (prepend_known shown left)) (block_at first (take (MAX_BLOCK + 1) shown)) (blocks_to_come last after)
hands_long first shown None after len newlines last here long goes = tt
hands_long first shown (Some reported) None len newlines last here long goes = absurd goes.taken
hands_long first shown (Some reported) (Some after) len newlines last here long goes =
    let whole = here.block ++ goes.more in
    let dropped : drop len shown ≡ here.rest = ap₂ (λ n text. drop n text) (sym here.bytes) here.cut ∙ drop-append_seam here.block here.rest in
    let cut : shown ++ reported ≡ whole ++ after =
    ap (λ text. text ++ reported) here.cut ∙ append_assoc here.block here.rest reported
    ∙ ap (λ text. here.block ++ text) (ap (λ rest. rest ++ reported) (sym dropped) ∙ goes.taken)
    ∙ sym (append_assoc here.block goes.more after) in
    let full : HasFullLines whole = full-append false here.block goes.more here.full ∙ goes.full in
    let counted : first + newlines_in whole ≡ last = omega (arith, newlines-append here.block goes.more, here.counted, goes.counted) in
    let enough : MAX_BLOCK + 1 ≤ length here.block = omega (arith, long, here.bytes) in
    let text_is : take (MAX_BLOCK + 1) whole ≡ take (MAX_BLOCK + 1) shown =
    take-append-le (MAX_BLOCK + 1) here.block goes.more enough ∙ sym (take-append-le (MAX_BLOCK + 1) here.block here.rest enough)
    ∙ ap (take (MAX_BLOCK + 1)) (sym here.cut) in
    ap (blocks_handed_from first) cut
    ∙ ap (map as_handed_out) (blocks-first first whole full after goes.ends)
    ∙ ap₂ (λ text n. block_at first text ∷ blocks_handed_from n after) text_is counted

-- The marks of newlines, and what their bits say of a block's end.
use Rattle.std.proofs.Common.{◌≡◌, ◌≢◌, ◌∙◌, ◌⊎◌, ℕ, suc, ◌+◌, ◌-◌, ◌*◌, ◌/◌, ◌%◌, ◌^◌, ◌<◌, ◌≤◌, ◌&&◌, Bool, true, false, cond, List, [], ◌∷◌}
use Rattle.std.proofs.Common.{ap, arith, bit_and, drop, get_or, inl, inr, length, map, min, pow_mono, pow_pos, refl, subst, sym, take, w64, zero}
use Rattle.std.specs.Int.{bit_at, trailing_zeros}
use Rattle.std.proofs.lemmas.Bool.{cases_lt, eqb-true, true≢false}
use Rattle.std.proofs.lemmas.List.{get_or-drop, get_or-take, get_or_past, length-map, length-take, length-take-le, take-append-drop, take-take}
use Rattle.std.proofs.lemmas.List.Sums.{count_by-le-length}
use Rattle.std.proofs.lemmas.Nat.{and_le_l, shr-shr}
use Rattle.std.proofs.lemmas.Nat.Bits.{bit_at-lt, bit_at-trailing_zeros, bit_at-zero, bit_at_and, bit_at_ones, bit_at_ones_above, same_from_bits}
use Rattle.std.proofs.lemmas.Simd.{bit_mask_l, length-chunk, mask_l-lt}
use Rattle.std.proofs.Math.ListN.{get_or-map}
use Rattle.std.proofs.Math.Nat.{two-pow-succ}
use Rattle.std.proofs.Math.Seq.{drop-cons, take-add}
use Rattle.acl_names.specs.Bytes.{newline}
use Rattle.acl_listings.specs.Extent.{BeginsLine, EndsBlock, IsExtent, has_full_lines, newline_marks, newlines_in}
use Rattle.acl_listings.proofs.ExtentLemmas.{is_newline, newlines-append}

-- a byte, as a bit
abbrev pub bit_of : Bool → ℕ
bit_of b = cond b 1 0

pub mark_is : (bytes : List ℕ) (k : ℕ) → bit_at (newline_marks bytes) k ≡ bit_of (is_newline (get_or bytes k 0))
mark_is bytes k = bit_mask_l (map is_newline bytes) k ∙ ap bit_of (get_or-map is_newline bytes k 0)

-- the low bits mark the first bytes
pub low_marks : (bytes : List ℕ) (len : ℕ) → bit_and (newline_marks bytes) (2 ^ len - 1) ≡ newline_marks (take len bytes)
low_marks bytes len = same_from_bits (bit_and (newline_marks bytes) (2 ^ len - 1)) (newline_marks (take len bytes)) (λ i. by_place i (cases_lt i len))
  where
    by_place : (i : ℕ) → (i < len) ⊎ (len ≤ i) → bit_at (bit_and (newline_marks bytes) (2 ^ len - 1)) i ≡ bit_at (newline_marks (take len bytes)) i
    by_place i (inl below) =
        let kept : bit_at (bit_and (newline_marks bytes) (2 ^ len - 1)) i ≡ bit_at (newline_marks bytes) i =
        omega (arith, bit_at_and (newline_marks bytes) (2 ^ len - 1) i, bit_at_ones len i below, bit_at-lt (newline_marks bytes) i) in
        kept ∙ mark_is bytes i ∙ ap (λ byte. bit_of (is_newline byte)) (sym (get_or-take len bytes i 0 below)) ∙ sym (mark_is (take len bytes) i)
    by_place i (inr above) =
        let none : bit_at (bit_and (newline_marks bytes) (2 ^ len - 1)) i ≡ 0 =
        omega (arith, bit_at_and (newline_marks bytes) (2 ^ len - 1) i, bit_at_ones_above len i above) in
        none ∙ sym (mark_is (take len bytes) i ∙ ap (λ byte. bit_of (is_newline byte)) (get_or_past (take len bytes) i 0 (omega (arith, length-take len bytes, above))))

-- one, shifted by fewer than 64 bits
pub one_shifted : (len : ℕ) → len < 64 → 1 * 2 ^ len % 2 ^ 64 ≡ 2 ^ len
one_shifted len few =
    let small : 2 ^ len < 2 ^ 64 = omega (arith, two-pow-succ len, pow_pos len, pow_mono {i = suc len} {j = 64} (omega (arith, few))) in
    omega (arith, small)

-- no newline before a place is followed by one
abbrev pub NoPair : List ℕ → ℕ → Type 0
NoPair text len = (k : ℕ) → k < len → is_newline (get_or text k 0) ≡ true → is_newline (get_or text (suc k) 0) ≡ true → ⊥

-- what 64 bytes from a place on say of the text
module _ (text : List ℕ) (at : ℕ) (room : at + 64 ≤ length text) where
  abbrev pub marks : ℕ
  marks = newline_marks (take 64 (drop at text))

  abbrev pub empty : ℕ
  empty = bit_and marks (marks / 2 ^ 1)

  mark_there : (k : ℕ) → k < 64 → bit_at marks k ≡ bit_of (is_newline (get_or text (at + k) 0))
  mark_there k inside = mark_is (take 64 (drop at text)) k ∙ ap (λ byte. bit_of (is_newline byte)) (get_or-take 64 (drop at text) k 0 inside ∙ get_or-drop at text k 0)

  pair_bit : (k : ℕ) → bit_at empty k ≡ min (bit_at marks k) (bit_at marks (1 + k))
  pair_bit k = bit_at_and marks (marks / 2 ^ 1) k ∙ ap (λ (bit : ℕ). min (bit_at marks k) bit) (ap (λ n. n % 2) (shr-shr marks 1 k))

  -- a bit that isn't set, and one that is
  no_pair : (k : ℕ) → k < 63 → bit_at empty k ≡ 0 → is_newline (get_or text (at + k) 0) ≡ true → is_newline (get_or text (at + (1 + k)) 0) ≡ true → ⊥
  no_pair k inside unset first second =
      let here : bit_at marks k ≡ 1 = mark_there k (omega (arith, inside)) ∙ ap bit_of first in
      let next : bit_at marks (1 + k) ≡ 1 = mark_there (1 + k) (omega (arith, inside)) ∙ ap bit_of second in
      omega (arith, pair_bit k, here, next, unset)

  set_bit : (b : Bool) → bit_of b ≡ 1 → b ≡ true
  set_bit true is = refl
  set_bit false is = absurd (omega (arith, is))

  pair : (k : ℕ) → k < 64 → bit_at empty k ≡ 1 → (k < 63) × (is_newline (get_or text (at + k) 0) ≡ true) × (is_newline (get_or text (at + (1 + k)) 0) ≡ true)
  pair k inside set =
      let here : bit_at marks k ≡ 1 = omega (arith, pair_bit k, set, bit_at-lt marks k, bit_at-lt marks (1 + k)) in
      let next : bit_at marks (1 + k) ≡ 1 = omega (arith, pair_bit k, set, bit_at-lt marks k, bit_at-lt marks (1 + k)) in
      let early = by_place (cases_lt k 63) next in
      (early, set_bit _ (sym (mark_there k inside) ∙ here), set_bit _ (sym (mark_there (1 + k) (omega (arith, early))) ∙ next))
    where
      by_place : (k < 63) ⊎ (63 ≤ k) → bit_at marks (1 + k) ≡ 1 → k < 63
      by_place (inl early) next = early
      by_place (inr late) next =
          let none : bit_at marks (1 + k) ≡ 0 = mark_is (take 64 (drop at text)) (1 + k)
          ∙ ap (λ byte. bit_of (is_newline byte)) (get_or_past (take 64 (drop at text)) (1 + k) 0 (omega (arith, length-take 64 (drop at text), late))) in
          absurd (omega (arith, none, next))

  -- no bit is set: so it goes on
  pub none_here : empty ≡ 0 → NoPair text at → NoPair text (at + 63)
  none_here none before k inside first second = by_place (cases_lt k at)
    where
      by_place : (k < at) ⊎ (at ≤ k) → ⊥
      by_place (inl early) = before k early first second
      by_place (inr late) =
          let here : k ≡ at + (k - at) = omega (arith, late) in
          let next : suc k ≡ at + (1 + (k - at)) = omega (arith, late) in
          no_pair (k - at) (omega (arith, inside, late)) (ap (λ n. bit_at n (k - at)) none ∙ bit_at-zero (k - at))
          (ap (λ n. is_newline (get_or text n 0)) (sym here) ∙ first) (ap (λ n. is_newline (get_or text n 0)) (sym next) ∙ second)

  -- the lowest bit: there the block ends
  record Found (len : ℕ) : Type 0 where
    pub inside : len < 63
    pub none : NoPair text (at + len)
    pub here : is_newline (get_or text (at + len) 0) ≡ true
    pub next : is_newline (get_or text (suc (at + len)) 0) ≡ true

  fits : empty < 2 ^ 64
  fits =
      let long = length-map (take 64 (drop at text)) is_newline ∙ length-chunk at 64 text room in
      omega (arith, and_le_l marks (marks / 2 ^ 1), subst (λ n. marks < 2 ^ n) long (mask_l-lt (map is_newline (take 64 (drop at text)))))

  found : 0 < empty → NoPair text at → Found (trailing_zeros w64 empty)
  found some before =
      let lowest = bit_at-trailing_zeros w64 empty some fits in
      let len = trailing_zeros w64 empty in
      let at_pair = pair len lowest.0 lowest.1 in
      let behind : at + (1 + len) ≡ suc (at + len) = omega arith in
      record {
        inside = at_pair.0;
        none = λ k inside first second. by_place k inside first second (cases_lt k at) lowest.2;
        here = at_pair.1;
        next = ap (λ n. is_newline (get_or text n 0)) (sym behind) ∙ at_pair.2;
      }
    where
      by_place : (k : ℕ) → k < at + trailing_zeros w64 empty → is_newline (get_or text k 0) ≡ true → is_newline (get_or text (suc k) 0) ≡ true
          → (k < at) ⊎ (at ≤ k) → ((j : ℕ) → j < trailing_zeros w64 empty → bit_at empty j ≡ 0) → ⊥
      by_place k inside first second (inl early) below = before k early first second
      by_place k inside first second (inr late) below =
          let here : k ≡ at + (k - at) = omega (arith, late) in
          let next : suc k ≡ at + (1 + (k - at)) = omega (arith, late) in
          let lowest = bit_at-trailing_zeros w64 empty some fits in
          let at_pair = pair (trailing_zeros w64 empty) lowest.0 lowest.1 in
          no_pair (k - at) (omega (arith, inside, late, at_pair.0)) (below (k - at) (omega (arith, inside, late)))
          (ap (λ n. is_newline (get_or text n 0)) (sym here) ∙ first) (ap (λ n. is_newline (get_or text n 0)) (sym next) ∙ second)

-- lines without a pair of newlines between them have bytes, up to a newline
full_from : (begun : Bool) (text : List ℕ) (len : ℕ) → len < length text → NoPair text len → is_newline (get_or text len 0) ≡ true
    → (begun ≡ false → is_newline (get_or text 0 0) ≡ true → ⊥) → has_full_lines begun (take len text) ≡ true
full_from begun [] len inside none ends fresh = absurd (omega (arith, inside))
full_from true (byte ∷ bytes) zero inside none ends fresh = refl
full_from false (byte ∷ bytes) zero inside none ends fresh = absurd (fresh refl ends)
full_from begun (byte ∷ bytes) (suc len) inside none ends fresh =
    by_first begun (is_newline byte) refl fresh
    (λ is. full_from false bytes len (omega (arith, inside)) later ends (λ _ second. none 0 (omega arith) is second))
    (full_from true bytes len (omega (arith, inside)) later ends (λ no. absurd (true≢false no)))
  where
    later : NoPair bytes len
    later k below first second = none (suc k) (omega (arith, below)) first second

    by_first : (begun b : Bool) → is_newline byte ≡ b → (begun ≡ false → is_newline byte ≡ true → ⊥)
        → (is_newline byte ≡ true → has_full_lines false (take len bytes) ≡ true) → has_full_lines true (take len bytes) ≡ true
        → cond b (begun && has_full_lines false (take len bytes)) (has_full_lines true (take len bytes)) ≡ true
    by_first false true is fresh ended going = absurd (fresh refl is)
    by_first true true is fresh ended going = ended is
    by_first begun false is fresh ended going = going

begins_no_newline : (text : List ℕ) → BeginsLine text → is_newline (get_or text 0 0) ≡ true → ⊥
begins_no_newline [] begins is = begins
begins_no_newline (byte ∷ bytes) begins is = begins (eqb-true byte newline is)

-- so they are a block, if an empty line stands behind them
pub block_ends : (text : List ℕ) (len newlines : ℕ) → BeginsLine text → suc len < length text → NoPair text len
    → is_newline (get_or text len 0) ≡ true → is_newline (get_or text (suc len) 0) ≡ true → newlines ≡ newlines_in (take len text) → IsExtent text len newlines
block_ends text len newlines begins inside none here next counted = record {
  block = take len text;
  rest = drop len text;
  cut = sym (take-append-drop len text);
  bytes = length-take-le len text (omega (arith, inside));
  full = full_from false text len (omega (arith, inside)) none here (λ _. begins_no_newline text begins);
  counted = sym counted;
  ends = subst EndsBlock (sym (drop-cons text len 0 (omega (arith, inside)) ∙ ap (λ rest. get_or text len 0 ∷ rest) (drop-cons text (suc len) 0 inside)))
      (eqb-true (get_or text len 0) newline here, eqb-true (get_or text (suc len) 0) newline next);
}

-- how many newlines stand in front of a place further on
pub counted_on : (text : List ℕ) (at len : ℕ) → len ≤ 64 → newlines_in (take (at + len) text) ≡ newlines_in (take at text) + newlines_in (take len (take 64 (drop at text)))
counted_on text at len few =
    ap newlines_in (take-add at len text) ∙ newlines-append (take at text) (take len (drop at text))
    ∙ ap (λ bytes. newlines_in (take at text) + newlines_in bytes) (sym (take-take len 64 (drop at text) few))

few_newlines : (text : List ℕ) (len : ℕ) → newlines_in (take len text) ≤ len
few_newlines text len = omega (arith, count_by-le-length is_newline (take len text), length-take len text)

-- a turn of the search: no empty line stands before the place, the marks of 64 bytes are read, and
-- the newlines among the first of these are counted
pub record Turn (text : List ℕ) (at newlines read count len : ℕ) : Type 0 where
  pub room : at + 64 ≤ length text
  pub none : NoPair text at
  pub counted : newlines_in (take at text) ≡ newlines
  pub are : read ≡ marks text at room
  pub count_is : count ≡ newlines_in (take len (take 64 (drop at text)))

pub turn_at : {text : List ℕ} {at newlines read count len : ℕ} (room : at + 64 ≤ length text) → NoPair text at → newlines_in (take at text) ≡ newlines → read ≡ marks text at room
    → count ≡ newlines_in (take len (take 64 (drop at text))) → Turn text at newlines read count len
turn_at room none counted are count_is = record { room = room; none = none; counted = counted; are = are; count_is = count_is }

module _ {text : List ℕ} {at newlines read count len : ℕ} (turn : Turn text at newlines read count len) where
  same_empty : bit_and read (read / 2) ≡ empty text at turn.room
  same_empty = ap (λ m. bit_and m (m / 2)) turn.are

  pub few_here : count ≤ len
  few_here = omega (arith, turn.count_is, few_newlines (take 64 (drop at text)) len)

  pub ends_here : len ≡ trailing_zeros w64 (bit_and read (read / 2)) → bit_and read (read / 2) ≢ 0 → BeginsLine text → IsExtent text (at + len) (newlines + count)
  ends_here is some begins =
      let not_none : 0 < empty text at turn.room = omega (arith, same_empty, some) in
      let there = subst (Found text at turn.room) (sym (is ∙ ap (trailing_zeros w64) same_empty)) (found text at turn.room not_none turn.none) in
      block_ends text (at + len) (newlines + count) begins (omega (arith, turn.room, there.inside)) there.none there.here there.next
      (omega (arith, counted_on text at len (omega (arith, there.inside)), turn.counted, turn.count_is))

  pub counted_here : len ≤ 64 → newlines_in (take (at + len) text) ≡ newlines + count
  counted_here few = omega (arith, counted_on text at len few, turn.counted, turn.count_is)

  pub goes_on : bit_and read (read / 2) ≡ 0 → NoPair text (at + 63)
  goes_on none = none_here text at turn.room (sym same_empty ∙ none) turn.none

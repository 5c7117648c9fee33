-- What a window shows after it takes and after it reads.
use Rattle.std.proofs.Common.{◌≡◌, ℕ, ◌+◌, ◌-◌, ◌≤◌, List, ◌++◌, length, drop, take, Option, Some, None, ap, sym, ◌∙◌, append_assoc, length-drop, length-take, arith}
use Rattle.std.proofs.lemmas.List.{drop-take}
use Rattle.std.proofs.Math.Seq.{drop-drop, take-add}
use Rattle.std.proofs.lemmas.List.Edits.{take-paste}
use Rattle.std.specs.List.{copy_within, slice_range}
use Rattle.std.specs.Io.KnownBytes.{Consumes, Keeps, prepend_known}
use Rattle.acl_listings.specs.Window.{AreBounds}

pub skipped : (buffer : List ℕ) (start end count : ℕ) → AreBounds buffer start end → count ≤ length (slice_range buffer start end)
    → slice_range buffer (start + count) end ≡ drop count (slice_range buffer start end)
skipped buffer start end count bounds within =
    let left = end - (start + count) in
    let short : count + left ≡ end - start = omega (arith, bounds.ordered, within, length-take {A = ℕ}) in
    ap (take left) (sym (drop-drop count start buffer))
    ∙ sym (drop-take count left (drop start buffer))
    ∙ ap (λ n. drop count (take n (drop start buffer))) short

-- the bytes stand at the front
pub moved : (buffer : List ℕ) (start end : ℕ) → AreBounds buffer start end → take (end - start) (copy_within buffer start end 0) ≡ slice_range buffer start end
moved buffer start end bounds =
    let none : 0 + (end - start) ≡ end - start = omega arith in
    ap (λ n. take n (copy_within buffer start end 0)) (sym none)
    ∙ take-paste buffer 0 (drop start buffer) (end - start) (omega arith) (omega (arith, bounds.ordered, bounds.within, length-drop start buffer))

-- more bytes behind those at the front
pub grown : (buffer shown : List ℕ) (len count : ℕ) → take len buffer ≡ shown → slice_range buffer 0 (len + count) ≡ shown ++ take count (drop len buffer)
grown buffer shown len count front =
    let whole : len + count - 0 ≡ len + count = omega arith in
    ap (λ n. take n buffer) whole ∙ take-add len count buffer ∙ ap (λ t. t ++ take count (drop len buffer)) front

pub reported_more : (before after : Option (List ℕ)) (shown more : List ℕ) → Consumes before after more → Keeps (prepend_known shown before) (prepend_known (shown ++ more) after)
reported_more None after shown more taken = tt
reported_more (Some reported) None shown more taken = absurd taken
reported_more (Some reported) (Some rest) shown more taken = append_assoc shown more rest ∙ ap (λ t. shown ++ t) (sym taken)

-- no more was read, behind the bytes at hand
pub reported_same : (before after : Option (List ℕ)) (shown : List ℕ) → Keeps before after → Keeps (prepend_known shown before) (prepend_known shown after)
reported_same None after shown kept = tt
reported_same (Some reported) None shown kept = absurd kept
reported_same (Some reported) (Some rest) shown kept = ap (λ t. shown ++ t) kept

-- the bytes at the front alone
pub still_shown : (buffer shown : List ℕ) (len : ℕ) → take len buffer ≡ shown → slice_range buffer 0 len ≡ shown
still_shown buffer shown len front =
    let whole : len - 0 ≡ len = omega arith in
    ap (λ n. take n buffer) whole ∙ front

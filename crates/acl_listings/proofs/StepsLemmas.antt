-- The steps of a cursor, on what is reported for the bytes that are still to come.
use Rattle.std.proofs.Common.{◌≡◌, ℕ, ◌+◌, ◌≤◌, true, cond, List, [], ◌∷◌, ◌++◌, length, drop, get_or, Option}
use Rattle.std.proofs.Common.{Some, None, IfSome, ap, sym, ◌∙◌, ◌⊎◌, inl, inr, append_assoc, append-nil}
use Rattle.std.proofs.Common.{length-append, arith, subst}
use Rattle.std.specs.Io.KnownBytes.{Consumes, IsAtEnd, Keeps, prepend_known}
use Rattle.std.proofs.KnownBytes.{Consumes-kept, Consumes-trans}
use Rattle.std.proofs.Math.Seq.{drop-append_seam}
use Rattle.std.proofs.lemmas.List.Sums.{sum_by-cons}
use Rattle.acl_names.specs.Bytes.{newline}
use Rattle.acl_listings.specs.Extent.{EndsBlock, GoesOnBy, IsExtent, has_full_lines, newlines_in}
use Rattle.acl_listings.specs.Source.{bytes_to_come}
use Rattle.acl_listings.proofs.ExtentLemmas.{full-append, is_newline, newlines-append}

-- what was taken goes on a block, by the lines from one number to another
pub record HasGoneOn (before after : Option (List ℕ)) (line last : ℕ) : Type 0 where
  pub more : List ℕ
  pub taken : Consumes before after more
  pub full : has_full_lines true more ≡ true
  pub counted : line + newlines_in more ≡ last

-- the extent of a block whatever follows
pub whole_extent : (shown : List ℕ) (left : Option (List ℕ)) (len newlines : ℕ) → IsExtent shown len newlines → (len + 2 ≤ length shown) ⊎ IsAtEnd left
    → IfSome (prepend_known shown left) (λ text. IsExtent text len newlines)
whole_extent shown None len newlines is sure = tt
whole_extent shown (Some bytes_to_come) len newlines is sure = record {
  block = is.block;
  rest = is.rest ++ bytes_to_come;
  cut = ap (λ t. t ++ bytes_to_come) is.cut ∙ append_assoc is.block is.rest bytes_to_come;
  bytes = is.bytes;
  full = is.full;
  counted = is.counted;
  ends = by_rest is.rest is.cut is.ends sure;
}
  where
    by_rest : (rest : List ℕ) → shown ≡ is.block ++ rest → EndsBlock rest → (len + 2 ≤ length shown) ⊎ (bytes_to_come ≡ []) → EndsBlock (rest ++ bytes_to_come)
    by_rest rest cut ends (inr over) = subst EndsBlock (sym (ap (λ t. rest ++ t) over ∙ append-nil rest)) ends
    by_rest [] cut ends (inl long) = absurd (omega (arith, ap length cut, length-append is.block [], is.bytes, long))
    by_rest (byte ∷ []) cut ends (inl long) = absurd (omega (arith, ap length cut, length-append is.block (byte ∷ []), is.bytes, long))
    by_rest (byte ∷ next ∷ more) cut ends (inl long) = ends

-- a block that goes on with the line behind a newline
pub goes_on_line : (text rest : List ℕ) (len newlines : ℕ) → text ≡ newline ∷ rest → IsExtent rest len newlines → GoesOnBy text (len + 1) (newlines + 1)
goes_on_line text rest len newlines behind is =
    let one : newlines_in (newline ∷ is.block) ≡ 1 + newlines_in is.block = sum_by-cons (λ x. cond (is_newline x) 1 0) newline is.block in
    record {
      more = newline ∷ is.block;
      rest = is.rest;
      cut = behind ∙ ap (λ t. newline ∷ t) is.cut;
      bytes = omega (arith, is.bytes);
      full = is.full;
      counted = omega (arith, one, is.counted);
      ends = λ none. absurd (omega arith);
    }

take_reported : (shown more rest : List ℕ) (left : Option (List ℕ)) → shown ≡ more ++ rest → Consumes (prepend_known shown left) (prepend_known rest left) more
take_reported shown more rest None cut = tt
take_reported shown more rest (Some bytes_to_come) cut = ap (λ t. t ++ bytes_to_come) cut ∙ append_assoc more rest bytes_to_come

pub gone_on : (before : Option (List ℕ)) (shown : List ℕ) (left : Option (List ℕ)) (line last len newlines : ℕ) → HasGoneOn before (prepend_known shown left) line last
    → GoesOnBy shown len newlines → HasGoneOn before (prepend_known (drop len shown) left) line (last + newlines)
gone_on before shown left line last len newlines gone by =
    let rest : by.rest ≡ drop len shown = sym (ap (λ n. drop n shown) (sym by.bytes) ∙ ap (drop (length by.more)) by.cut ∙ drop-append_seam by.more by.rest) in
    let taken : Consumes before (prepend_known by.rest left) (gone.more ++ by.more) =
    Consumes-trans before (prepend_known shown left) (prepend_known by.rest left) gone.more by.more gone.taken (take_reported shown by.more by.rest left by.cut) in
    record {
      more = gone.more ++ by.more;
      taken = subst (λ r. Consumes before (prepend_known r left) (gone.more ++ by.more)) rest taken;
      full = full-append true gone.more by.more gone.full ∙ by.full;
      counted = omega (arith, newlines-append gone.more by.more, gone.counted, by.counted);
    }

pub gone_kept : (before mid after : Option (List ℕ)) (line last : ℕ) → HasGoneOn before mid line last → Keeps mid after → HasGoneOn before after line last
gone_kept before mid after line last gone kept = record {
  more = gone.more;
  taken = Consumes-kept before mid after gone.more gone.taken kept;
  full = gone.full;
  counted = gone.counted;
}

pub begins_with_newline : (text : List ℕ) → 2 ≤ length text → get_or text 0 0 ≡ newline → text ≡ newline ∷ drop 1 text
begins_with_newline [] long first = absurd (omega arith)
begins_with_newline (byte ∷ bytes) long first = ap (λ b. b ∷ bytes) first

-- The first line of a text, byte by byte.
use Rattle.std.proofs.Common.{◌≡◌, ℕ, ◌+◌, Bool, true, false, cond, not, List, [], ◌∷◌, ◌++◌, drop, take, suc, zero, ap, refl, sym, ◌∙◌, arith}
use Rattle.std.specs.List.{position_or_len}
use Rattle.std.proofs.lemmas.List.Elements.{All-head, All-tail}
use Rattle.acl_names.specs.Bytes.{newline}
use Rattle.acl_listings.specs.Lines.{after_line, first_line}
use Rattle.acl_listings.proofs.ExtentLemmas.{LacksNewline, before-later, is_newline}

pub first_line-cons : (byte : ℕ) (bytes : List ℕ) (b : Bool) → is_newline byte ≡ b → first_line (byte ∷ bytes) ≡ cond b [] (byte ∷ first_line bytes)
first_line-cons byte bytes true is = ap (λ b. take (cond (not b) (1 + position_or_len is_newline bytes) 0) (byte ∷ bytes)) is
first_line-cons byte bytes false is = before-later is_newline byte bytes is

pub after_line-cons : (byte : ℕ) (bytes : List ℕ) (b : Bool) → is_newline byte ≡ b → after_line (byte ∷ bytes) ≡ cond b bytes (after_line bytes)
after_line-cons byte bytes true is = ap (λ b. drop (cond (not b) (1 + position_or_len is_newline bytes) 0 + 1) (byte ∷ bytes)) is
after_line-cons byte bytes false is =
    let n = position_or_len is_newline bytes in
    let moved : 1 + n + 1 ≡ suc (n + 1) = omega arith in
    ap (λ b. drop (cond (not b) (1 + n) 0 + 1) (byte ∷ bytes)) is ∙ ap (λ k. drop k (byte ∷ bytes)) moved

-- the first line of a front is the front of the first line
pub first-front : (n : ℕ) (text : List ℕ) → first_line (take n text) ≡ take n (first_line text)
first-front zero text = refl
first-front (suc n) [] = refl
first-front (suc n) (byte ∷ bytes) = by_first (is_newline byte) refl (first-front n bytes)
  where
    by_first : (b : Bool) → is_newline byte ≡ b → first_line (take n bytes) ≡ take n (first_line bytes) → first_line (byte ∷ take n bytes) ≡ take (suc n) (first_line (byte ∷ bytes))
    by_first true is more = first_line-cons byte (take n bytes) true is ∙ ap (take (suc n)) (sym (first_line-cons byte bytes true is))
    by_first false is more =
        first_line-cons byte (take n bytes) false is ∙ ap (λ line. byte ∷ line) more ∙ ap (take (suc n)) (sym (first_line-cons byte bytes false is))

-- a line that a newline ends
pub first-of : (line rest : List ℕ) → LacksNewline line → first_line (line ++ newline ∷ rest) ≡ line
first-of [] rest lacks = refl
first-of (byte ∷ line) rest lacks =
    first_line-cons byte (line ++ newline ∷ rest) false (All-head (λ x. is_newline x ≡ false) byte line lacks)
    ∙ ap (λ more. byte ∷ more) (first-of line rest (All-tail (λ x. is_newline x ≡ false) byte line lacks))

pub after-of : (line rest : List ℕ) → LacksNewline line → after_line (line ++ newline ∷ rest) ≡ rest
after-of [] rest lacks = refl
after-of (byte ∷ line) rest lacks =
    after_line-cons byte (line ++ newline ∷ rest) false (All-head (λ x. is_newline x ≡ false) byte line lacks)
    ∙ after-of line rest (All-tail (λ x. is_newline x ≡ false) byte line lacks)

pub first-alone : (line : List ℕ) → LacksNewline line → first_line line ≡ line
first-alone [] lacks = refl
first-alone (byte ∷ line) lacks =
    first_line-cons byte line false (All-head (λ x. is_newline x ≡ false) byte line lacks)
    ∙ ap (λ more. byte ∷ more) (first-alone line (All-tail (λ x. is_newline x ≡ false) byte line lacks))

pub after-alone : (line : List ℕ) → LacksNewline line → after_line line ≡ []
after-alone [] lacks = refl
after-alone (byte ∷ line) lacks =
    after_line-cons byte line false (All-head (λ x. is_newline x ≡ false) byte line lacks)
    ∙ after-alone line (All-tail (λ x. is_newline x ≡ false) byte line lacks)

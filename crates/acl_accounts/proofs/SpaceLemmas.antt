-- What stands behind white space.
use Rattle.std.proofs.Common.{◌≡◌, ◌∙◌, ℕ, Bool, true, false, cond, List, [], ◌∷◌, ◌++◌, refl, ap}
use Rattle.std.specs.List.{All}
use Rattle.std.proofs.lemmas.List.Elements.{All-nil, All-cons, All-head, All-tail}
use Rattle.std.specs.Prelude.{slice_index}
use Rattle.acl_accounts.specs.Shapes.{StandsBehindSpace}
use Rattle.acl_accounts.specs.Space.{is_space, skip_space}

abbrev IsWhite : List ℕ → Type 0
IsWhite text = All (λ byte. is_space byte ≡ true) text

pub space_stands : (text : List ℕ) → StandsBehindSpace text (skip_space text)
space_stands [] = record { front = []; text_is = refl; front_is = All-nil (λ byte. is_space byte ≡ true); begins = refl }
space_stands (byte ∷ bytes) = by_byte (is_space byte) refl (space_stands bytes)
  where
    by_byte : (b : Bool) → is_space byte ≡ b → StandsBehindSpace bytes (skip_space bytes) → StandsBehindSpace (byte ∷ bytes) (cond b (skip_space bytes) (byte ∷ bytes))
    by_byte true is more = record {
      front = byte ∷ more.front;
      text_is = ap (λ text. byte ∷ text) more.text_is;
      front_is = All-cons (λ other. is_space other ≡ true) byte more.front is more.front_is;
      begins = more.begins;
    }
    by_byte false is more = record { front = []; text_is = refl; front_is = All-nil (λ other. is_space other ≡ true); begins = is }

skip_front : (front rest : List ℕ) → IsWhite front → is_space (slice_index rest 0) ≡ false → skip_space (front ++ rest) ≡ rest
skip_front [] [] white begins = refl
skip_front [] (byte ∷ bytes) white begins = ap (λ b. cond b (skip_space bytes) (byte ∷ bytes)) begins
skip_front (byte ∷ front) rest white begins =
    ap (λ b. cond b (skip_space (front ++ rest)) (byte ∷ (front ++ rest))) (All-head (λ other. is_space other ≡ true) byte front white)
    ∙ skip_front front rest (All-tail (λ other. is_space other ≡ true) byte front white) begins

pub space_skipped : (text rest : List ℕ) → StandsBehindSpace text rest → skip_space text ≡ rest
space_skipped text rest stands = ap skip_space stands.text_is ∙ skip_front stands.front rest stands.front_is stands.begins

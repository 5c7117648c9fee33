-- What becomes of the last part of a text.
use Rattle.std.proofs.Common.{◌≡◌, ◌∙◌, ◌+◌, ◌-◌, ◌<◌, ◌++◌, ◌∷◌, [], ℕ, List, ap, sym, refl, length, map, take, get_or, arith}
use Rattle.std.proofs.lemmas.List.{take_more, take_all, map-append, nil_from_length}
use Rattle.acl_names.specs.Pieces.{without_empty_last}

-- an empty last part goes
without_empty_last-empty : (parts : List (List ℕ)) → without_empty_last (parts ++ [] ∷ []) ≡ parts
without_empty_last-empty [] = refl
without_empty_last-empty ([] ∷ []) = refl
without_empty_last-empty ([] ∷ next ∷ more) = ap (λ rest. [] ∷ rest) (without_empty_last-empty (next ∷ more))
without_empty_last-empty ((byte ∷ bytes) ∷ more) = ap (λ rest. (byte ∷ bytes) ∷ rest) (without_empty_last-empty more)

-- a last part with bytes stays
without_empty_last-whole : (parts : List (List ℕ)) (last : List ℕ) → 0 < length last → without_empty_last (parts ++ last ∷ []) ≡ parts ++ last ∷ []
without_empty_last-whole [] [] some = absurd (omega arith)
without_empty_last-whole [] (byte ∷ bytes) some = refl
without_empty_last-whole ([] ∷ []) last some = ap (λ rest. [] ∷ rest) (without_empty_last-whole [] last some)
without_empty_last-whole ([] ∷ next ∷ more) last some = ap (λ rest. [] ∷ rest) (without_empty_last-whole (next ∷ more) last some)
without_empty_last-whole ((byte ∷ bytes) ∷ more) last some = ap (λ rest. (byte ∷ bytes) ∷ rest) (without_empty_last-whole more last some)

module _ {X : Type 0} (text : X → List ℕ) (xs : List X) (last : X) (some : 0 < length xs) (is_last : last ≡ get_or xs (length xs - 1) last) where
  abbrev front : List (List ℕ)
  front = map text (take (length xs - 1) xs)

  -- the texts are all but the last, and then that
  texts_apart : map text xs ≡ front ++ text last ∷ []
  texts_apart =
      let n = length xs - 1 in
      let whole : take (n + 1) xs ≡ xs = take_all (n + 1) xs (omega arith) in
      let parts : take (n + 1) xs ≡ take n xs ++ get_or xs n last ∷ [] = take_more xs n last (omega arith) in
      let apart : xs ≡ take n xs ++ last ∷ [] = sym whole ∙ parts ∙ ap (λ x. take n xs ++ x ∷ []) (sym is_last) in
      ap (map text) apart ∙ map-append text (take n xs) (last ∷ [])

  pub without_empty_last-gone : length (text last) ≡ 0 → front ≡ without_empty_last (map text xs)
  without_empty_last-gone empty =
      let nothing : text last ≡ [] = nil_from_length (text last) empty in
      sym (ap without_empty_last (texts_apart ∙ ap (λ t. front ++ t ∷ []) nothing) ∙ without_empty_last-empty front)

  pub without_empty_last-kept : 0 < length (text last) → map text xs ≡ without_empty_last (map text xs)
  without_empty_last-kept bytes =
      texts_apart ∙ sym (without_empty_last-whole front (text last) bytes) ∙ ap without_empty_last (sym texts_apart)

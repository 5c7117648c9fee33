-- All rounds serve each session whole.
use Rattle.std.proofs.Common.{ap, ◌∙◌, subst, arith, get_or, append-nil, ◌≡◌, ℕ, zero, suc, ◌+◌, ◌<◌, List, [], ◌∷◌, ◌++◌, map, take, drop, refl, if◌then◌else◌, eq-eqb, ne_eqb}
use Rattle.acl_broker.specs.Journal.{items_from}
use Rattle.acl_broker.proofs.Journals.{items_from-append}
use Rattle.acl_runs.specs.Rounds.{entries_of, heads, rounds}

module _ {I : Type 0} where
  items_own : (session : ℕ) (items : List I) → items_from session (entries_of session items) ≡ items
  items_own session [] = refl
  items_own session (item ∷ items) =
      ap (λ test. if test then item ∷ items_from session (entries_of session items) else items_from session
      (entries_of session items)) (eq-eqb session session refl) ∙ ap (λ rest. item ∷ rest) (items_own session items)

  items_other : (session other : ℕ) (items : List I) → (other ≡ session → ⊥) → items_from session (entries_of other items) ≡ []
  items_other session other [] differ = refl
  items_other session other (item ∷ items) differ =
      ap (λ test. if test then item ∷ items_from session (entries_of other items) else items_from session
      (entries_of other items)) (ne_eqb other session differ) ∙ items_other session other items differ

  items_before : (session first : ℕ) (lists : List (List I)) → session < first → items_from session (heads first lists) ≡ []
  items_before session first [] below = refl
  items_before session first (list ∷ lists) below =
      items_from-append session (entries_of first (take 1 list)) (heads (suc first) lists)
      ∙ ap (λ front. front ++ items_from session (heads (suc first) lists)) (items_other session first (take 1 list) (λ same. absurd (omega (arith, same, below))))
      ∙ items_before session (suc first) lists (omega (arith, below))

  items_heads : (n session first : ℕ) (lists : List (List I)) → session ≡ first + n → items_from session (heads first lists) ≡ take 1 (get_or lists n [])
  items_heads n session first [] is = refl
  items_heads zero session first (list ∷ lists) is =
      let same : session ≡ first = omega (arith, is) in
      items_from-append session (entries_of first (take 1 list)) (heads (suc first) lists)
      ∙ ap (λ front. front ++ items_from session (heads (suc first) lists)) (subst (λ at. items_from session (entries_of at (take 1 list)) ≡ take 1 list) same (items_own session (take 1 list)))
      ∙ ap (λ back. take 1 list ++ back) (items_before session (suc first) lists (omega (arith, same))) ∙ append-nil (take 1 list)
  items_heads (suc n) session first (list ∷ lists) is =
      items_from-append session (entries_of first (take 1 list)) (heads (suc first) lists)
      ∙ ap (λ front. front ++ items_from session (heads (suc first) lists)) (items_other session first (take 1 list) (λ same. absurd (omega (arith, same, is))))
      ∙ items_heads n session (suc first) lists (omega (arith, is))

  rest_at : (lists : List (List I)) (session : ℕ) → get_or (map (drop 1) lists) session [] ≡ drop 1 (get_or lists session [])
  rest_at [] session = refl
  rest_at (list ∷ lists) zero = refl
  rest_at (list ∷ lists) (suc session) = rest_at lists session

  take_none : (n : ℕ) → ◌≡◌ {A = List I} (take n []) []
  take_none zero = refl
  take_none (suc n) = refl

  one_and_more : (n : ℕ) (items : List I) → take 1 items ++ take n (drop 1 items) ≡ take (suc n) items
  one_and_more n [] = take_none n
  one_and_more n (item ∷ items) = refl

  -- what so many rounds have of a session
  pub items_rounds : (n session : ℕ) (lists : List (List I)) → items_from session (rounds n lists) ≡ take n (get_or lists session [])
  items_rounds zero session lists = refl
  items_rounds (suc n) session lists =
      items_from-append session (heads 0 lists) (rounds n (map (drop 1) lists))
      ∙ ap (λ front. front ++ items_from session (rounds n (map (drop 1) lists))) (items_heads session session 0 lists (omega arith))
      ∙ ap (λ back. take 1 (get_or lists session []) ++ back) (items_rounds n session (map (drop 1) lists) ∙ ap (λ list. take n list) (rest_at lists session))
      ∙ one_and_more n (get_or lists session [])

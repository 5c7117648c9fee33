-- The folder of a path: its steps are all of the path's but the last.
use Rattle.std.proofs.Common.{◌≡◌, ◌∙◌, ◌<◌, ◌≤◌, ◌+◌, ◌-◌, ◌==◌, ◌&&◌, ◌||◌, ◌++◌, ℕ, Bool, true, false, cond, List, [], ◌∷◌, None, add-one, ap, ap₂, arith, bytes_eq, get_or, length, length-append, refl, subst, sym, take}
use Rattle.std.specs.Cmp.Lexicographic.{pointwise}
use Rattle.std.specs.List.{before_last, join_with_byte, list_any, onto_first}
use Rattle.std.proofs.lemmas.Bool.Decides.{nat_tests}
use Rattle.std.proofs.lemmas.List.{get_or-append_right, get_or_at, take_at}
use Rattle.std.proofs.lemmas.List.Splits.{join_with_byte-slice_split, slice_split_none}
use Rattle.std.proofs.lemmas.Slice.Eq.{bytes_eq-Decides}
use Rattle.acl_names.specs.Pieces.{parts}
use Rattle.acl_names.proofs.AscendingLemmas.{any_false}
use Rattle.acl_listings.specs.Way.{begin_alike, is_above, is_absolute, is_below, is_folder_of, is_inside, place_by, steps_behind, steps_of}
use Rattle.acl_listings.specs.declared.way.Place.TheVariants.{Elsewhere}
use Rattle.acl_listings.proofs.PlaceLemmas.{behind-of}
use Rattle.acl_tree.specs.Path.{is_slash, or_root, parent}
use Rattle.acl_tree.proofs.PathLemmas.{front_of}
use Rattle.acl_tree_queries.proofs.StepOrderLemmas.{IsTreePath, above_steps, behind, leads_below, more_steps, slash, some_part, steps_in, with_byte}

-- ---- what stands before the last slash

parts-more : (front back : List ℕ) → parts slash (front ++ slash ∷ back) ≡ parts slash front ++ parts slash back
parts-more [] back = refl
parts-more (byte ∷ front) back = by (byte == slash) (parts slash front) (some_part front) (parts-more front back)
  where
    by : (b : Bool) (all : List (List ℕ)) → 0 < length all → parts slash (front ++ slash ∷ back) ≡ all ++ parts slash back
        → with_byte b byte (parts slash (front ++ slash ∷ back)) ≡ with_byte b byte all ++ parts slash back
    by true all some rest = ap (λ more. [] ∷ more) rest
    by false [] some rest = absurd (omega (arith, some))
    by false (part ∷ more) some rest = ap (onto_first byte) rest

-- a text round its last slash
record IsParted (text : List ℕ) : Type 0 where
  front : List ℕ
  last : List ℕ
  is : text ≡ front ++ slash ∷ last
  none : list_any is_slash last ≡ false

parted : (text : List ℕ) → list_any is_slash text ≡ true → IsParted text
parted [] there = cc
parted (byte ∷ text) there = by (list_any is_slash text) refl there (parted text)
  where
    by : (b : Bool) → list_any is_slash text ≡ b → (is_slash byte || b) ≡ true → (list_any is_slash text ≡ true → IsParted text) → IsParted (byte ∷ text)
    by true is there rest = let found = rest is in record { front = byte ∷ found.front; last = found.last; is = ap (λ more. byte ∷ more) found.is; none = found.none }
    by false is there rest =
        let here : is_slash byte ≡ true = plain (is_slash byte) there in
        let same : byte ≡ slash = grind (arith, nat_tests) in
        record { front = []; last = text; is = ap (λ b. b ∷ text) same; none = is }
      where
        plain : (b : Bool) → (b || false) ≡ true → b ≡ true
        plain true is = refl
        plain false is = cc

before_is : (front last : List ℕ) → list_any is_slash last ≡ false → before_last is_slash (front ++ slash ∷ last) ≡ front
before_is front last none =
    let whole : length (front ++ slash ∷ last) ≡ length front + (1 + length last) = length-append front (slash ∷ last) ∙ omega arith in
    sym (front_of (front ++ slash ∷ last) (length front + 1) (omega (arith, whole)) (clear whole) (λ some. ap is_slash (ap (λ k. get_or (front ++ slash ∷ last) k 0) back_one ∙ get_or_at front slash last 0 (length front) refl)))
    ∙ ap (λ k. take k (front ++ slash ∷ last)) back_one
    ∙ take_at front (slash ∷ last) (length front) refl
  where
    back_one : length front + 1 - 1 ≡ length front
    back_one = omega arith

    clear : length (front ++ slash ∷ last) ≡ length front + (1 + length last) → (k d : ℕ) → length front + 1 ≤ k → k < length (front ++ slash ∷ last)
        → is_slash (get_or (front ++ slash ∷ last) k d) ≡ false
    clear whole k d behind inside =
        let up : k - length front ≡ (k - length front - 1) + 1 = omega (arith, behind) in
        ap is_slash (get_or-append_right front (slash ∷ last) (length front) k d refl (omega (arith, behind)) ∙ ap (λ n. get_or (slash ∷ last) n d) up ∙ later (k - length front - 1))
        ∙ any_false last is_slash none (k - length front - 1) d (omega (arith, behind, inside, whole))
      where
        later : (n : ℕ) → get_or (slash ∷ last) (n + 1) d ≡ get_or last n d
        later n = ap (λ m. get_or (slash ∷ last) m d) (add-one n)

-- ---- the folder of a path

pub record HasFolder (path folder : List ℕ) : Type 0 where
  pub last : List ℕ
  pub steps : steps_of path ≡ steps_of folder ++ last ∷ []
  pub shorter : length folder < length path

one_part : (byte : ℕ) (last : List ℕ) → list_any is_slash (byte ∷ last) ≡ false → parts slash (byte ∷ last) ≡ (byte ∷ last) ∷ []
one_part byte last none = slice_split_none is_slash (byte ∷ last) (λ k d inside. any_false (byte ∷ last) is_slash none k d inside)

has_folder : (front last : List ℕ) → list_any is_slash last ≡ false → IsTreePath (front ++ slash ∷ last) → 0 < length (behind (front ++ slash ∷ last)) → IsTreePath (or_root front)
    → HasFolder (front ++ slash ∷ last) (or_root front)
has_folder [] [] none is some are = absurd (omega (arith, some))
has_folder [] (byte ∷ last) none is some are = record { last = byte ∷ last; steps = is.steps ∙ one_part byte last none; shorter = omega arith }
has_folder (first ∷ []) last none is some are = absurd (never is.parts)
  where
    never : false ≡ true → ⊥
    never is = cc
has_folder (first ∷ byte ∷ front) last none is some are = record {
  last = last;
  steps = is.steps ∙ parts-more (byte ∷ front) last ∙ ap₂ (λ one other. one ++ other) (sym are.steps) (alone last none);
  shorter = omega (arith, length-append (first ∷ byte ∷ front) (slash ∷ last));
}
  where
    alone : (last : List ℕ) → list_any is_slash last ≡ false → parts slash last ≡ last ∷ []
    alone [] none = refl
    alone (byte ∷ last) none = one_part byte last none

pub folder_of_path : (path : List ℕ) → IsTreePath path → 0 < length (behind path) → IsTreePath (parent path) → HasFolder path (parent path)
folder_of_path path is some are =
    let found = parted path (ap (list_any is_slash) is.begins) in
    let same : parent path ≡ or_root found.front = ap (λ text. or_root (before_last is_slash text)) found.is ∙ ap or_root (before_is found.front found.last found.none) in
    subst (λ folder. HasFolder path folder) (sym same)
    (subst (λ text. HasFolder text (or_root found.front)) (sym found.is)
    (has_folder found.front found.last found.none (subst IsTreePath found.is is) (subst (λ text. 0 < length (behind text)) found.is some) (subst IsTreePath same are)))

-- ---- what is above a path is its folder, or above that

below_more : (above steps : List (List ℕ)) (last : List ℕ) → leads_below above (steps ++ last ∷ []) ≡ (leads_below above steps || pointwise bytes_eq above steps)
below_more [] [] last = refl
below_more [] (step ∷ steps) last = more_steps step (steps ++ last ∷ []) ∙ ap (λ b. b || false) (sym (more_steps step steps))
below_more (first ∷ above) [] last = by (bytes_eq first last) above
  where
    by : (b : Bool) (above : List (List ℕ)) → is_below (place_by (cond b (steps_behind above []) None)) ≡ false
    by true [] = refl
    by true (next ∷ above) = refl
    by false above = refl
below_more (first ∷ above) (step ∷ steps) last = by (bytes_eq first step) (below_more above steps last)
  where
    by : (b : Bool) → leads_below above (steps ++ last ∷ []) ≡ (leads_below above steps || pointwise bytes_eq above steps)
        → is_below (place_by (cond b (steps_behind above (steps ++ last ∷ [])) None)) ≡ (is_below (place_by (cond b (steps_behind above steps) None)) || (b && pointwise bytes_eq above steps))
    by true rest = rest
    by false rest = refl

steps_same : (one other : List (List ℕ)) → pointwise bytes_eq one other ≡ true → one ≡ other
steps_same [] [] is = refl
steps_same [] (step ∷ other) is = cc
steps_same (step ∷ one) [] is = cc
steps_same (step ∷ one) (next ∷ other) is = by (bytes_eq step next) refl is (steps_same one other)
  where
    by : (b : Bool) → bytes_eq step next ≡ b → (b && pointwise bytes_eq one other) ≡ true → (pointwise bytes_eq one other ≡ true → one ≡ other) → step ∷ one ≡ next ∷ other
    by true same rest more = ap₂ (λ (s : List ℕ) (more : List (List ℕ)). s ∷ more) ((bytes_eq-Decides step next).0 same) (more rest)
    by false same rest more = cc

-- a path of a tree is where its steps lead
pub by_steps : (one other : List ℕ) → IsTreePath one → IsTreePath other → steps_of one ≡ steps_of other → one ≡ other
by_steps one other is are same =
    is.begins ∙ ap (λ rest. slash ∷ rest) (by (behind one) (behind other) (sym is.steps ∙ same ∙ are.steps)) ∙ sym are.begins
  where
    no_parts : (text : List ℕ) → [] ≡ parts slash text → ⊥
    no_parts text none = let some = some_part text in omega (arith, some, ap length none)

    by : (one other : List ℕ) → steps_in one ≡ steps_in other → one ≡ other
    by [] [] same = refl
    by [] (byte ∷ other) same = absurd (no_parts (byte ∷ other) same)
    by (byte ∷ one) [] same = absurd (no_parts (byte ∷ one) (sym same))
    by (byte ∷ one) (first ∷ other) same =
        sym (join_with_byte-slice_split slash (byte ∷ one)) ∙ ap (join_with_byte slash) same ∙ join_with_byte-slice_split slash (first ∷ other)

module _ (path folder : List ℕ) (is : IsTreePath path) (are : IsTreePath folder) (has : HasFolder path folder) where
  pub above_folder : (other : List ℕ) → IsTreePath other → bytes_eq other folder ≡ false → is_above other path ≡ is_above other folder
  above_folder other lies differ =
      above_steps other path lies is
      ∙ ap (leads_below (steps_of other)) has.steps
      ∙ below_more (steps_of other) (steps_of folder) has.last
      ∙ ap (λ b. leads_below (steps_of other) (steps_of folder) || b) (by (pointwise bytes_eq (steps_of other) (steps_of folder)) refl)
      ∙ plain (leads_below (steps_of other) (steps_of folder))
      ∙ sym (above_steps other folder lies are)
    where
      plain : (b : Bool) → (b || false) ≡ b
      plain true = refl
      plain false = refl

      by : (b : Bool) → pointwise bytes_eq (steps_of other) (steps_of folder) ≡ b → b ≡ false
      by false same = refl
      by true same =
          sym ((bytes_eq-Decides other folder).1 (by_steps other folder lies are (steps_same (steps_of other) (steps_of folder) same))) ∙ differ

  pub folder_holds : is_folder_of folder path ≡ true
  folder_holds =
      ap₂ (λ a b. is_inside (cond (begin_alike (is_absolute a) (is_absolute b)) (place_by (steps_behind (steps_of folder) (steps_of path))) Elsewhere)) are.begins is.begins
      ∙ ap (λ steps. is_inside (place_by (steps_behind (steps_of folder) steps))) has.steps
      ∙ ap (λ found. is_inside (place_by found)) (behind-of (steps_of folder) (has.last ∷ []))

  pub folder_above : is_above folder path ≡ true
  folder_above =
      ap₂ (λ a b. is_below (cond (begin_alike (is_absolute a) (is_absolute b)) (place_by (steps_behind (steps_of folder) (steps_of path))) Elsewhere)) are.begins is.begins
      ∙ ap (λ steps. is_below (place_by (steps_behind (steps_of folder) steps))) has.steps
      ∙ ap (λ found. is_below (place_by found)) (behind-of (steps_of folder) (has.last ∷ []))

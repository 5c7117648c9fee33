-- The lines of people, place by place.
use Rattle.std.proofs.Common.{◌≡◌, ◌≢◌, ◌∙◌, ◌≤◌, ◌<◌, ◌+◌, ◌==◌, ◌++◌, ℕ, zero, suc, Bool, true, false, cond, List, [], ◌∷◌, Option, Some, None, ap, append_assoc, append-nil, arith, drop, length, length-append, map, refl, sym}
use Rattle.std.specs.Prelude.{slice_get}
use Rattle.std.specs.List.{enumerate_from, flat_map}
use Rattle.std.specs.Option.{option_map_or}
use Rattle.std.proofs.lemmas.Bool.{true≢false}
use Rattle.std.proofs.lemmas.Bool.Decides.{Decides-eqb}
use Rattle.acl_names.specs.Bits.{without}
use Rattle.acl_names.specs.Requester.{Identity}
use Rattle.acl_bridge.specs.Comparison.{mask_for}
use Rattle.acl_cli.specs.Reporting.{is_empty}
use Rattle.acl_people.specs.Asked.{persons_of}
use Rattle.acl_people.specs.Person.{Person}
use Rattle.acl_listing_changes.specs.ImpactText.{line_at, person_text}
use Rattle.acl_listing_changes.proofs.ImpactLemmas.{none_left}
use Rattle.acl_listing_reach.specs.LineSteps.{line_there}
use Rattle.acl_listing_reach.specs.ReachText.{ReachAsking, all_lines, differ_text, first_line, first_of, line_for, number_at}

-- ---- of what stands at a place, and behind it

module _ {X : Type 0} (f : ℕ × X → List ℕ) (number : ℕ) where
  abbrev pub here : ℕ → List X → List ℕ
  here place items = option_map_or (λ item. f (number, item)) (slice_get items place) []

  pub reported_on : (place : ℕ) (items : List X) → flat_map f (enumerate_from number (drop place items)) ≡ here place items ++ flat_map f (enumerate_from (number + 1) (drop (suc place) items))
  reported_on zero [] = refl
  reported_on zero (item ∷ items) = refl
  reported_on (suc place) [] = refl
  reported_on (suc place) (item ∷ items) = reported_on place items

  -- the first that there is stands further on, or here
  pub first_on : (place : ℕ) (items : List X) → here place items ≡ [] → first_of (map f (enumerate_from number (drop place items))) ≡ first_of (map f (enumerate_from (number + 1) (drop (suc place) items)))
  first_on zero [] none = refl
  first_on zero (item ∷ items) none = ap (λ line. cond (is_empty line) (first_of (map f (enumerate_from (number + 1) items))) line) none
  first_on (suc place) [] none = refl
  first_on (suc place) (item ∷ items) none = first_on place items none

  pub first_here : (place : ℕ) (items : List X) → is_empty (here place items) ≡ false → first_of (map f (enumerate_from number (drop place items))) ≡ here place items
  first_here zero [] some = absurd (true≢false some)
  first_here zero (item ∷ items) some = ap (λ b. cond b (first_of (map f (enumerate_from (number + 1) items))) (f (number, item))) some
  first_here (suc place) [] some = absurd (true≢false some)
  first_here (suc place) (item ∷ items) some = first_here place items some

-- what was appended, by the lengths
pub some_line : (out line : List ℕ) → length out < length (out ++ line) → is_empty line ≡ false
some_line out [] more = absurd (omega (arith, more, ap length (append-nil out)))
some_line out (byte ∷ line) more = refl

pub no_line : (out line : List ℕ) → length (out ++ line) ≤ length out → line ≡ []
no_line out [] none = refl
no_line out (byte ∷ line) none = absurd (omega (arith, none, length-append out (byte ∷ line)))

-- ---- the line at a place

module _ (old new path : List ℕ) (place : ℕ) where
  pub line_same : (found : Option Person) → (number_at old place == number_at new place) ≡ true → option_map_or (λ person. line_for old new path (place, person)) found [] ≡ []
  line_same None same = refl
  line_same (Some person) same =
      ap (λ b. cond b [] (person_text person (mask_for (without (number_at old place) (number_at new place))) (mask_for (without (number_at new place) (number_at old place))) path)) same

  pub line_other : (found : Option Person) → (number_at old place == number_at new place) ≡ false
      → line_at (λ person. person_text person (mask_for (without (number_at old place) (number_at new place))) (mask_for (without (number_at new place) (number_at old place))) path) found
      ≡ option_map_or (λ person. line_for old new path (place, person)) found []
  line_other None other = refl
  line_other (Some person) other =
      sym (ap (λ b. cond b [] (person_text person (mask_for (without (number_at old place) (number_at new place))) (mask_for (without (number_at new place) (number_at old place))) path)) other)

-- ---- all lines

module _ (old new path : List ℕ) (persons : List Person) where
  abbrev pub rest_lines : ℕ → List ℕ
  rest_lines place = flat_map (line_for old new path) (enumerate_from place (drop place persons))

  abbrev pub rest_first : ℕ → List ℕ
  rest_first place = first_of (map (line_for old new path) (enumerate_from place (drop place persons)))

  pub all_more : (place : ℕ) (first out out' : List ℕ) → first ++ all_lines persons old new path ≡ out ++ rest_lines place → out' ≡ out ++ line_there persons old new path place
      → first ++ all_lines persons old new path ≡ out' ++ rest_lines (place + 1)
  all_more place first out out' was is =
      let one : suc place ≡ place + 1 = omega arith in
      was ∙ ap (λ rest. out ++ rest) (reported_on (line_for old new path) place place persons)
      ∙ sym (append_assoc out (line_there persons old new path place) (flat_map (line_for old new path) (enumerate_from (place + 1) (drop (suc place) persons))))
      ∙ ap (λ front. front ++ flat_map (line_for old new path) (enumerate_from (place + 1) (drop (suc place) persons))) (sym is)
      ∙ ap (λ n. out' ++ flat_map (line_for old new path) (enumerate_from (place + 1) (drop n persons))) one

  pub first_more : (place : ℕ) → line_there persons old new path place ≡ [] → rest_first place ≡ rest_first (place + 1)
  first_more place none =
      let one : suc place ≡ place + 1 = omega arith in
      first_on (line_for old new path) place place persons none ∙ ap (λ n. first_of (map (line_for old new path) (enumerate_from (place + 1) (drop n persons)))) one

  pub first_found : (place : ℕ) → is_empty (line_there persons old new path place) ≡ false → rest_first place ≡ line_there persons old new path place
  first_found place some = first_here (line_for old new path) place place persons some

module _ (old new path : List ℕ) (names : List (List ℕ)) (whos : List Identity) (place : ℕ) (past : length whos ≤ place) where
  pub all_end : rest_lines old new path (persons_of names whos) place ≡ []
  all_end = ap (λ persons. flat_map (line_for old new path) (enumerate_from place persons)) (none_left names whos place past)

  pub first_end : rest_first old new path (persons_of names whos) place ≡ []
  first_end = ap (λ persons. first_of (map (line_for old new path) (enumerate_from place persons))) (none_left names whos place past)

-- ---- where the letters are the same

itself : (number : ℕ) → (number == number) ≡ true
itself number = (Decides-eqb number number).1 refl

unchanged_line : (letters path : List ℕ) (here : ℕ × Person) → line_for letters letters path here ≡ []
unchanged_line letters path here = ap (λ b. cond b [] (person_text here.1 (mask_for (without (number_at letters here.0) (number_at letters here.0))) (mask_for (without (number_at letters here.0) (number_at letters here.0))) path)) (itself (number_at letters here.0))

module _ (letters path : List ℕ) where
  unchanged_all : (number : ℕ) (persons : List Person) → flat_map (line_for letters letters path) (enumerate_from number persons) ≡ []
  unchanged_all number [] = refl
  unchanged_all number (person ∷ persons) =
      ap (λ line. line ++ flat_map (line_for letters letters path) (enumerate_from (number + 1) persons)) (unchanged_line letters path (number, person)) ∙ unchanged_all (number + 1) persons

  unchanged_first : (number : ℕ) (persons : List Person) → first_of (map (line_for letters letters path) (enumerate_from number persons)) ≡ []
  unchanged_first number [] = refl
  unchanged_first number (person ∷ persons) =
      ap (λ line. cond (is_empty line) (first_of (map (line_for letters letters path) (enumerate_from (number + 1) persons))) line) (unchanged_line letters path (number, person))
      ∙ unchanged_first (number + 1) persons

  pub unchanged_text : (asking : ReachAsking) → differ_text asking letters letters path ≡ []
  unchanged_text asking = by asking.each
    where
      by : (each : Bool) → cond each (all_lines asking.persons letters letters path) (first_line asking.persons letters letters path) ≡ []
      by true = unchanged_all 0 asking.persons
      by false = unchanged_first 0 asking.persons

pub other_number : (m n : ℕ) → m ≢ n → (m == n) ≡ false
other_number m n differ = by (m == n) refl
  where
    by : (b : Bool) → (m == n) ≡ b → b ≡ false
    by true same = absurd (differ ((Decides-eqb m n).0 same))
    by false other = refl

pub equal_number : (m n : ℕ) → m ≡ n → (m == n) ≡ true
equal_number m n same = (Decides-eqb m n).1 same

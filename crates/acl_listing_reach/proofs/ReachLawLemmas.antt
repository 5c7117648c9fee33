-- What is reported where the answers of `who --reach` differ.
use Rattle.std.proofs.Common.{◌≡◌, ◌∙◌, ◌+◌, ◌++◌, ◌==◌, ℕ, zero, suc, Bool, true, false, cond, List, [], ◌∷◌, Some, ap, append_assoc, arith, get_or, length, length-append, refl, sym}
use Rattle.std.specs.Prelude.{slice_get}
use Rattle.std.specs.List.{enumerate_from, flat_map}
use Rattle.std.proofs.lemmas.Bool.Decides.{Decides-eqb}
use Rattle.acl_names.specs.Bits.{◌∪◌, without}
use Rattle.acl_names.specs.Requester.{Identity}
use Rattle.acl_access.specs.Letters.{effective}
use Rattle.acl_access.specs.Reach.{reaches}
use Rattle.acl_posix.specs.PermsText.{perms_text}
use Rattle.acl_bridge.specs.Comparison.{mask_for}
use Rattle.acl_bridge.specs.Files.{File, may}
use Rattle.acl_people.specs.Person.{Person}
use Rattle.acl_listing_changes.specs.ImpactText.{person_text}
use Rattle.acl_listing_queries.specs.WhoText.{letters_line_if, number_reported, person_line, person_reported}
use Rattle.acl_listing_reach.specs.ReachLaws.{LettersAreThoseOfWho, LinesAreWhereAnswersDiffer}
use Rattle.acl_listing_reach.specs.ReachText.{change_line, line_for, number_at}

-- ---- the number at a place

stands_there : (front rest : List ℕ) (number : ℕ) → get_or (front ++ number ∷ rest) (length front) 0 ≡ number
stands_there [] rest number = refl
stands_there (first ∷ front) rest number = stands_there front rest number

module _ (way : List File) (file : File) where
  abbrev number_of : Person → ℕ
  number_of person = cond (reaches way person.who) (effective file person.who) 0

  abbrev numbers : List Person → List ℕ
  numbers persons = flat_map (person_reported number_reported effective way file) persons

  pub number_there : (persons : List Person) (place : ℕ) (person : Person) → slice_get persons place ≡ Some person → get_or (numbers persons) place 0 ≡ number_of person
  number_there [] place person is = absurd (cc)
  number_there (first ∷ persons) zero person is =
      let same : first ≡ person = cc in
      ap number_of same
  number_there (first ∷ persons) (suc place) person is = number_there persons place person is

  module _ (path : List ℕ) where
    abbrev line_of : List ℕ → ℕ × Person → List ℕ
    line_of letters here = letters_line_if perms_text path here.1.name (number_at letters here.0)

    lines_behind : (front : List ℕ) (persons : List Person) (place : ℕ) (all : List ℕ) → place ≡ length front → all ≡ front ++ numbers persons
        → flat_map (person_line perms_text effective way path file) persons ≡ flat_map (line_of all) (enumerate_from place persons)
    lines_behind front [] place all there is = refl
    lines_behind front (person ∷ persons) place all there is =
        let number = number_of person in
        let here : number_at all place ≡ number = ap (λ place. get_or all place 0) there ∙ ap (λ all. get_or all (length front) 0) is ∙ stands_there front (numbers persons) number in
        let next : place + 1 ≡ length (front ++ number ∷ []) = simp length-append (omega (arith, there)) in
        let rest = lines_behind (front ++ number ∷ []) persons (place + 1) all next (is ∙ sym (append_assoc front (number ∷ []) (numbers persons))) in
        ap (λ number. letters_line_if perms_text path person.name number ++ flat_map (person_line perms_text effective way path file) persons) (sym here)
        ∙ ap (λ lines. line_of all (place, person) ++ lines) rest

pub letters_are : LettersAreThoseOfWho
letters_are persons way path file = lines_behind way file path [] persons 0 (numbers way file persons) refl refl

-- ---- which letters a line has

by_bits : (P : ℕ → Type 0) → P 0 → P 1 → P 2 → P 3 → P 4 → P 5 → P 6 → P 7 → (r w x : Bool) → P (cond r 4 0 ∪ cond w 2 0 ∪ cond x 1 0)
by_bits P p0 p1 p2 p3 p4 p5 p6 p7 true true true = p7
by_bits P p0 p1 p2 p3 p4 p5 p6 p7 true true false = p6
by_bits P p0 p1 p2 p3 p4 p5 p6 p7 true false true = p5
by_bits P p0 p1 p2 p3 p4 p5 p6 p7 true false false = p4
by_bits P p0 p1 p2 p3 p4 p5 p6 p7 false true true = p3
by_bits P p0 p1 p2 p3 p4 p5 p6 p7 false true false = p2
by_bits P p0 p1 p2 p3 p4 p5 p6 p7 false false true = p1
by_bits P p0 p1 p2 p3 p4 p5 p6 p7 false false false = p0

-- the number of the letters with which a line begins
abbrev read_number : List ℕ → ℕ
read_number line = cond (get_or line 0 0 == 114) 4 0 + cond (get_or line 1 0 == 119) 2 0 + cond (get_or line 2 0 == 120) 1 0

module _ (path name : List ℕ) where
  abbrev IsReadAgain : ℕ → Type 0
  IsReadAgain number = read_number (letters_line_if perms_text path name number) ≡ number

  effective_again : (file : File) (who : Identity) → IsReadAgain (effective file who)
  effective_again file who = by_bits IsReadAgain refl refl refl refl refl refl refl refl (may file who 4) (may file who 2) (may file who 1)

  number_again : (way : List File) (file : File) (who : Identity) → IsReadAgain (cond (reaches way who) (effective file who) 0)
  number_again way file who = by (reaches way who)
    where
      by : (b : Bool) → IsReadAgain (cond b (effective file who) 0)
      by true = effective_again file who
      by false = refl

-- ---- no line, where both are the same

text_there : (person : Person) (lost gained : ℕ) (path : List ℕ) (b : Bool) → cond b [] (person_text person lost gained path) ≡ [] → b ≡ true
text_there person lost gained path true none = refl
text_there person lost gained path false none = absurd (cc)

same_number : (m n : ℕ) → (m == n) ≡ true → m ≡ n
same_number m n same = (Decides-eqb m n).0 same

pub lines_are : LinesAreWhereAnswersDiffer
lines_are persons place person there path way file other_way other =
    let old = number_there way file persons place person there in
    let new = number_there other_way other persons place person there in
    let m = number_of way file person in
    let n = number_of other_way other person in
    let line : line_for (numbers way file persons) (numbers other_way other persons) path (place, person) ≡ change_line m n path person =
    ap (λ old. change_line old (number_at (numbers other_way other persons) place) path person) old ∙ ap (λ new. change_line m new path person) new in (
      λ none.
          let same : m ≡ n = same_number m n (text_there person (mask_for (without m n)) (mask_for (without n m)) path (m == n) (sym line ∙ none)) in
          ap (letters_line_if perms_text path person.name) same,
      λ same.
          let equal : m ≡ n = sym (number_again path person.name way file person.who) ∙ ap read_number same ∙ number_again path person.name other_way other person.who in
          let is : (m == n) ≡ true = (Decides-eqb m n).1 equal in
          line ∙ ap (λ b. cond b [] (person_text person (mask_for (without m n)) (mask_for (without n m)) path)) is,
    )

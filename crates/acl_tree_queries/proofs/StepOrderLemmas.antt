-- How the paths of a tree compare step by step, and which of them is above which.
use Rattle.std.proofs.Common.{◌≡◌, ◌∙◌, ◌<◌, ◌==◌, ◌&&◌, ◌||◌, ℕ, Bool, true, false, not, cond, List, [], ◌∷◌, Some, None, ap, ap₂, arith, bytes_eq, codes, length, nat_lt, nat_le, refl, subst, sym}
use Rattle.std.specs.Cmp.{nat_cmp_is, nat_cmp_total, tied_itself}
use Rattle.std.specs.Cmp.Lexicographic.{slice_cmp}
use Rattle.std.specs.FinMap.{nat_cmp-IsAntisymmetric}
use Rattle.std.specs.List.{All, AllByRecursion, list_all, onto_first}
use Rattle.std.specs.Ordering.{nat_cmp, ordering_reverse, ordering_then}
use Rattle.std.specs.declared.cmp.Ordering.{Ordering}
use Rattle.std.specs.declared.cmp.Ordering.TheVariants.{Less, Equal, Greater}
use Rattle.std.proofs.lemmas.Bool.{and_parts}
use Rattle.std.proofs.lemmas.Bool.Decides.{nat_tests}
use Rattle.std.proofs.lemmas.List.Elements.{All-weaker, recursion_from_All}
use Rattle.std.proofs.lemmas.List.Splits.{join_with_byte-slice_split, length-slice_split}
use Rattle.std.proofs.lemmas.List.Sums.{AllPass-from_list_all}
use Rattle.acl_names.specs.Pieces.{parts}
use Rattle.acl_lang.proofs.PrintedWords.{All-joined}
use Rattle.acl_listings.specs.Way.{begin_alike, is_above, is_absolute, is_below, leads, place_by, steps_among, steps_behind, steps_of}
use Rattle.acl_listings.specs.declared.way.Place.TheVariants.{Elsewhere}
use Rattle.acl_tree.specs.Path.{is_component, is_path, is_path_byte, is_slash}
use Rattle.acl_tree.specs.Walk.{rank_of, walk_key}
use Rattle.acl_tree.specs.declared.limits.TheConstants.{MAX_COMPONENT_LEN, MAX_PATH_LEN}

abbrev pub slash : ℕ
slash = 47

abbrev LacksZero : List ℕ → Type 0
LacksZero bytes = AllByRecursion (λ byte. 0 < byte) bytes

abbrev pub step_cmp : List ℕ → List ℕ → Ordering
step_cmp one other = slice_cmp nat_cmp (walk_key one) (walk_key other)

same_number : (one other : ℕ) → (one == other) ≡ true → one ≡ other
same_number one other is = grind (arith, nat_tests)

passes_same : (one other : ℕ) → one ≡ other → (one == other) ≡ true
passes_same one other is = grind (arith, nat_tests)

-- ---- texts that go on with a slash behind another

abbrev goes_on : List ℕ → List ℕ → Bool
goes_on [] [] = false
goes_on [] (byte ∷ bytes) = is_slash byte
goes_on (first ∷ more) [] = false
goes_on (first ∷ more) (byte ∷ bytes) = (first == byte) && goes_on more bytes

-- none goes on so with one that comes before it
not_back : (one other : List ℕ) → step_cmp one other ≡ Less → goes_on other one ≡ false
not_back [] [] less = refl
not_back (first ∷ one) [] less = cc
not_back [] (byte ∷ other) less = refl
not_back (first ∷ one) (byte ∷ other) less = by (byte == first) refl (not_back one other)
  where
    by : (b : Bool) → (byte == first) ≡ b → (step_cmp one other ≡ Less → goes_on other one ≡ false) → (b && goes_on other one) ≡ false
    by false is rest = refl
    by true is rest =
        let same : byte ≡ first = same_number byte first is in
        rest (ap (λ order. ordering_then order (step_cmp one other)) (sym (ap (λ b. nat_cmp (rank_of first) (rank_of b)) same ∙ tied_itself nat_cmp_total (rank_of first))) ∙ less)

above_zero : (n : ℕ) → 0 < n → nat_cmp n 0 ≡ Greater
above_zero n some = sym (nat_cmp_is n 0 Greater some)

rank_same : (one other : ℕ) → 0 < one → 0 < other → rank_of one ≡ rank_of other → one ≡ other
rank_same one other some more is = by (one == slash) (other == slash) refl refl is
  where
    by : (b c : Bool) → (one == slash) ≡ b → (other == slash) ≡ c → cond b 0 one ≡ cond c 0 other → one ≡ other
    by true true first second is = grind (arith, nat_tests)
    by true false first second is = absurd (omega (arith, more, is))
    by false true first second is = absurd (omega (arith, some, is))
    by false false first second is = is

-- what is behind one and before another, if that is where the first was, ties with it at first
tied : (one other more rest : Ordering) → other ≡ ordering_reverse one → ordering_then one more ≡ Less → ordering_then other rest ≡ Less
    → (one ≡ Equal) × (more ≡ Less) × (rest ≡ Less)
tied Less other more rest turned before behind = cc
tied Equal other more rest turned before behind = (refl, before, ap (λ order. ordering_then order rest) (sym turned) ∙ behind)
tied Greater other more rest turned before behind = cc

-- what is between a text and one that goes on so goes on so, too
between : (one mid other : List ℕ) → LacksZero one → LacksZero mid → step_cmp one mid ≡ Less → step_cmp mid other ≡ Less → goes_on one other ≡ true → goes_on one mid ≡ true
between [] [] other some more before behind on = cc
between [] (byte ∷ mid) [] some more before behind on = cc
between [] (byte ∷ mid) (last ∷ other) some more before behind on = by (byte == slash) refl behind
  where
    by : (b : Bool) → (byte == slash) ≡ b → ordering_then (nat_cmp (cond b 0 byte) (rank_of last)) (step_cmp mid other) ≡ Less → b ≡ true
    by true is order = refl
    by false is order = absurd (never (sym (ap (λ o. ordering_then o (step_cmp mid other)) (ap (λ b. nat_cmp byte (cond b 0 last)) on ∙ above_zero byte more.0)) ∙ order))
      where
        never : Greater ≡ Less → ⊥
        never is = cc
between (first ∷ one) [] other some more before behind on = cc
between (first ∷ one) (byte ∷ mid) [] some more before behind on = cc
between (first ∷ one) (byte ∷ mid) (last ∷ other) some more before behind on =
    let both = and_parts (first == last) (goes_on one other) on in
    let same : first ≡ last = same_number first last both.0 in
    let turned : nat_cmp (rank_of byte) (rank_of last) ≡ ordering_reverse (nat_cmp (rank_of first) (rank_of byte)) =
    ap (λ b. nat_cmp (rank_of byte) (rank_of b)) (sym same) ∙ nat_cmp_total.antisymm (rank_of byte) (rank_of first) in
    let all = tied (nat_cmp (rank_of first) (rank_of byte)) (nat_cmp (rank_of byte) (rank_of last)) (step_cmp one mid) (step_cmp mid other) turned before behind in
    let here : first ≡ byte = rank_same first byte some.0 more.0 (nat_cmp-IsAntisymmetric (rank_of first) (rank_of byte) all.0) in
    ap₂ (λ a b. a && b) (passes_same first byte here) (between one mid other some.1 more.1 all.1 all.2 both.1)

-- ---- the steps of texts

abbrev pub leads_below : List (List ℕ) → List (List ℕ) → Bool
leads_below above steps = is_below (place_by (steps_behind above steps))

pub more_steps : (step : List ℕ) (steps : List (List ℕ)) → is_below (place_by (Some (step ∷ steps))) ≡ true
more_steps step [] = refl
more_steps step (next ∷ steps) = refl

pub some_part : (text : List ℕ) → 0 < length (parts slash text)
some_part text = omega (arith, length-slice_split (λ byte. byte == slash) text)

-- the parts of a text with one byte more, which is a slash or not
abbrev pub with_byte : Bool → ℕ → List (List ℕ) → List (List ℕ)
with_byte b byte all = cond b ([] ∷ all) (onto_first byte all)

below_nothing : (b : Bool) (byte : ℕ) (all : List (List ℕ)) → 0 < length all → leads_below ([] ∷ []) (with_byte b byte all) ≡ b
below_nothing b byte [] some = absurd (omega (arith, some))
below_nothing true byte (part ∷ more) some = more_steps part more
below_nothing false byte (part ∷ more) some = refl

nothing_below : (b : Bool) (byte : ℕ) (all : List (List ℕ)) → 0 < length all → leads_below (with_byte b byte all) ([] ∷ []) ≡ false
nothing_below b byte [] some = absurd (omega (arith, some))
nothing_below true byte (part ∷ more) some = refl
nothing_below false byte (part ∷ more) some = refl

first_step : (b c : Bool) (one other : List (List ℕ)) → is_below (place_by (cond (b && c) (steps_behind one other) None)) ≡ (b && is_below (place_by (cond c (steps_behind one other) None)))
first_step true c one other = refl
first_step false c one other = refl

below_with : (first byte : ℕ) (b c : Bool) → (first == slash) ≡ b → (byte == slash) ≡ c → (one other : List (List ℕ)) → 0 < length one → 0 < length other
    → leads_below (with_byte b first one) (with_byte c byte other) ≡ ((first == byte) && leads_below one other)
below_with first byte b c is are [] other some more = absurd (omega (arith, some))
below_with first byte b c is are (part ∷ one) [] some more = absurd (omega (arith, more))
below_with first byte true true is are (part ∷ one) (step ∷ other) some more =
    let same : (first == byte) ≡ true = grind (arith, nat_tests) in ap (λ b. b && leads_below (part ∷ one) (step ∷ other)) (sym same)
below_with first byte true false is are (part ∷ one) (step ∷ other) some more =
    let differ : (first == byte) ≡ false = grind (arith, nat_tests) in ap (λ b. b && leads_below (part ∷ one) (step ∷ other)) (sym differ)
below_with first byte false true is are (part ∷ one) (step ∷ other) some more =
    let differ : (first == byte) ≡ false = grind (arith, nat_tests) in ap (λ b. b && leads_below (part ∷ one) (step ∷ other)) (sym differ)
below_with first byte false false is are (part ∷ one) (step ∷ other) some more = first_step (first == byte) (bytes_eq part step) one other

below-parts : (one other : List ℕ) → leads_below (parts slash one) (parts slash other) ≡ goes_on one other
below-parts [] [] = refl
below-parts [] (byte ∷ other) = below_nothing (byte == slash) byte (parts slash other) (some_part other)
below-parts (first ∷ one) [] = nothing_below (first == slash) first (parts slash one) (some_part one)
below-parts (first ∷ one) (byte ∷ other) =
    below_with first byte (first == slash) (byte == slash) refl refl (parts slash one) (parts slash other) (some_part one) (some_part other)
    ∙ ap (λ b. (first == byte) && b) (below-parts one other)

-- ---- paths, by what stands behind their first slash

abbrev pub behind : List ℕ → List ℕ
behind [] = []
behind (first ∷ rest) = rest

abbrev pub is_over : List ℕ → List ℕ → Bool
is_over [] [] = false
is_over [] (byte ∷ bytes) = true
is_over (first ∷ more) other = goes_on (first ∷ more) other

abbrev pub steps_in : List ℕ → List (List ℕ)
steps_in [] = []
steps_in (byte ∷ bytes) = parts slash (byte ∷ bytes)

over_by_steps : (one other : List ℕ) → leads_below (steps_in one) (steps_in other) ≡ is_over one other
over_by_steps [] [] = refl
over_by_steps [] (byte ∷ other) = by (parts slash (byte ∷ other)) (some_part (byte ∷ other))
  where
    by : (all : List (List ℕ)) → 0 < length all → is_below (place_by (Some all)) ≡ true
    by [] some = absurd (omega (arith, some))
    by (step ∷ all) some = more_steps step all
over_by_steps (first ∷ one) [] = by (parts slash (first ∷ one)) (some_part (first ∷ one))
  where
    by : (all : List (List ℕ)) → 0 < length all → leads_below all [] ≡ false
    by [] some = absurd (omega (arith, some))
    by (step ∷ all) some = refl
over_by_steps (first ∷ one) (byte ∷ other) = below-parts (first ∷ one) (byte ∷ other)

-- a path of a tree begins with a slash, has its parts as steps, and no zero byte
pub record IsTreePath (path : List ℕ) : Type 0 where
  pub begins : path ≡ slash ∷ behind path
  pub steps : steps_of path ≡ steps_in (behind path)
  pub some : LacksZero (behind path)
  pub parts : list_all is_component (steps_in (behind path)) ≡ true

component_leads : (part : List ℕ) → is_component part ≡ true → leads part ≡ true
component_leads part is =
    let some = nat_lt 0 (length part) in
    let few = nat_le (length part) MAX_COMPONENT_LEN in
    let bytes = list_all is_path_byte part in
    let not_here = not (bytes_eq part (codes ".")) in
    let first = and_parts (some && few && bytes && not_here) (not (bytes_eq part (codes ".."))) is in
    let second = and_parts (some && few && bytes) not_here first.0 in
    let third = and_parts (some && few) bytes second.0 in
    ap₂ (λ a b. a && b) (and_parts some few third.0).0 second.1

all_lead : (all : List (List ℕ)) → list_all is_component all ≡ true → steps_among all ≡ all
all_lead [] are = refl
all_lead (part ∷ all) are =
    let both = and_parts (is_component part) (list_all is_component all) are in
    ap₂ (λ b rest. cond b (part ∷ rest) rest) (component_leads part both.0) (all_lead all both.1)

some_byte : (byte : ℕ) → is_path_byte byte ≡ true → 0 < byte
some_byte byte is = grind (arith, nat_tests)

some_bytes : (part : List ℕ) → is_component part ≡ true → All (λ byte. 0 < byte) part
some_bytes part is =
    let some = nat_lt 0 (length part) && nat_le (length part) MAX_COMPONENT_LEN in
    let bytes = list_all is_path_byte part in
    let not_here = not (bytes_eq part (codes ".")) in
    let first = and_parts (some && bytes && not_here) (not (bytes_eq part (codes ".."))) is in
    let second = and_parts (some && bytes) not_here first.0 in
    All-weaker (λ byte. is_path_byte byte ≡ true) (λ byte. 0 < byte) some_byte part (AllPass-from_list_all is_path_byte part (and_parts some bytes second.0).1)

lacks_zero : (rest : List ℕ) → list_all is_component (parts slash rest) ≡ true → LacksZero rest
lacks_zero rest are =
    let each = All-weaker (λ part. is_component part ≡ true) (All (λ byte. 0 < byte)) some_bytes (parts slash rest) (AllPass-from_list_all is_component (parts slash rest) are) in
    recursion_from_All (λ byte. 0 < byte) rest (subst (All (λ byte. 0 < byte)) (join_with_byte-slice_split slash rest) (All-joined (λ byte. 0 < byte) slash (omega arith) (parts slash rest) each))

pub tree_path : (path : List ℕ) → is_path path ≡ true → IsTreePath path
tree_path [] is = cc
tree_path (first ∷ []) is = by (first == slash) refl is
  where
    by : (b : Bool) → (first == slash) ≡ b → ((b && true) || (nat_le 1 MAX_PATH_LEN && (b && false))) ≡ true → IsTreePath (first ∷ [])
    by true is slashed =
        let same : first ≡ slash = same_number first slash is in
        subst (λ byte. IsTreePath (byte ∷ [])) (sym same) (record { begins = refl; steps = refl; some = tt; parts = refl })
    by false is slashed = cc
tree_path (first ∷ byte ∷ rest) is = by (first == slash) refl is
  where
    all : List (List ℕ)
    all = parts slash (byte ∷ rest)

    by : (b : Bool) → (first == slash) ≡ b → ((b && false) || (nat_le (length (first ∷ byte ∷ rest)) MAX_PATH_LEN && (b && list_all is_component all))) ≡ true → IsTreePath (first ∷ byte ∷ rest)
    by false is slashed = absurd (never (nat_le (length (first ∷ byte ∷ rest)) MAX_PATH_LEN) slashed)
      where
        never : (b : Bool) → (b && false) ≡ true → ⊥
        never true is = cc
        never false is = cc
    by true is slashed =
        let same : first ≡ slash = same_number first slash is in
        let are : list_all is_component all ≡ true = (and_parts (nat_le (length (first ∷ byte ∷ rest)) MAX_PATH_LEN) (list_all is_component all) slashed).1 in
        subst (λ first. IsTreePath (first ∷ byte ∷ rest)) (sym same) (record { begins = refl; steps = all_lead all are; some = lacks_zero (byte ∷ rest) are; parts = are })

-- ---- paths of a tree

module _ (one other : List ℕ) (is : IsTreePath one) (are : IsTreePath other) where
  pub above_steps : is_above one other ≡ leads_below (steps_of one) (steps_of other)
  above_steps = ap₂ (λ a b. is_below (cond (begin_alike (is_absolute a) (is_absolute b)) (place_by (steps_behind (steps_of one) (steps_of other))) Elsewhere)) is.begins are.begins

  above_over : is_above one other ≡ is_over (behind one) (behind other)
  above_over =
      above_steps
      ∙ ap₂ leads_below is.steps are.steps
      ∙ over_by_steps (behind one) (behind other)

  pub order_behind : step_cmp one other ≡ step_cmp (behind one) (behind other)
  order_behind = ap₂ step_cmp is.begins are.begins

-- no path is above one before it
pub not_above_before : (one other : List ℕ) → IsTreePath one → IsTreePath other → step_cmp one other ≡ Less → is_above other one ≡ false
not_above_before one other is are less = above_over other one are is ∙ by (behind one) (behind other) (sym (order_behind one other is are) ∙ less)
  where
    by : (one other : List ℕ) → step_cmp one other ≡ Less → is_over other one ≡ false
    by [] [] less = refl
    by (first ∷ one) [] less = cc
    by one (byte ∷ other) less = not_back one (byte ∷ other) less

-- what is between a path and one below it is below it, too
pub above_between : (one mid other : List ℕ) → IsTreePath one → IsTreePath mid → IsTreePath other → step_cmp one mid ≡ Less → step_cmp mid other ≡ Less
    → is_above one other ≡ true → is_above one mid ≡ true
above_between one mid other is lies are before after above =
    above_over one mid is lies
    ∙ by (behind one) (behind mid) (behind other) is.some lies.some (sym (order_behind one mid is lies) ∙ before) (sym (order_behind mid other lies are) ∙ after)
    (sym (above_over one other is are) ∙ above)
  where
    by : (one mid other : List ℕ) → LacksZero one → LacksZero mid → step_cmp one mid ≡ Less → step_cmp mid other ≡ Less → is_over one other ≡ true → is_over one mid ≡ true
    by [] [] other some more before after over = cc
    by [] (byte ∷ mid) other some more before after over = refl
    by (first ∷ one) mid other some more before after over = between (first ∷ one) mid other some more before after over

-- paths that tie are one
pub same_place : (one other : List ℕ) → IsTreePath one → IsTreePath other → step_cmp one other ≡ Equal → one ≡ other
same_place one other is are even =
    is.begins ∙ ap (λ rest. slash ∷ rest) (by (behind one) (behind other) is.some are.some (sym (order_behind one other is are) ∙ even)) ∙ sym are.begins
  where
    alike : (order rest : Ordering) → ordering_then order rest ≡ Equal → (order ≡ Equal) × (rest ≡ Equal)
    alike Less rest even = cc
    alike Equal rest even = (refl, even)
    alike Greater rest even = cc

    by : (one other : List ℕ) → LacksZero one → LacksZero other → step_cmp one other ≡ Equal → one ≡ other
    by [] [] some more even = refl
    by [] (byte ∷ other) some more even = cc
    by (first ∷ one) [] some more even = cc
    by (first ∷ one) (byte ∷ other) some more even =
        let both = alike (nat_cmp (rank_of first) (rank_of byte)) (step_cmp one other) even in
        ap₂ (λ (b : ℕ) (rest : List ℕ). b ∷ rest) (rank_same first byte some.0 more.0 (nat_cmp-IsAntisymmetric (rank_of first) (rank_of byte) both.0)) (by one other some.1 more.1 both.1)

-- The components of a path, seen from the first byte before which a component ends.
use Rattle.std.proofs.Common.{get_or, ◌≡◌, ◌≢◌, ℕ, ◌+◌, ◌==◌, ◌≤◌, ◌<◌, Bool, true, false, not, ◌&&◌, take}
use Rattle.std.proofs.Common.{drop, List, [], ◌∷◌, ◌++◌, length, refl, ap, sym, subst, ◌∙◌, arith, codes}
use Rattle.std.proofs.Common.{get_or-take, length-take-le, bytes_eq, nat_lt, nat_le}
use Rattle.std.specs.List.{All, list_all, position_or_len, onto_first}
use Rattle.std.proofs.lemmas.List.Elements.{All-head, All-tail, All-weaker}
use Rattle.std.proofs.lemmas.List.Sums.{fails_before_first, passes_at_first, split_at_first}
use Rattle.std.proofs.lemmas.List.Splits.{slice_split_at, slice_split_none, slice_split-cons_no, length-slice_split}
use Rattle.std.proofs.lemmas.Bool.Decides.{nat_tests}
use Rattle.std.proofs.lemmas.Bool.{not-false, not-true, and_left, and_right}
use Rattle.acl_names.specs.Pieces.{parts}
use Rattle.acl_tree.specs.Path.{ends_component, is_component, is_path_byte}
use Rattle.acl_tree.specs.declared.limits.TheConstants.{MAX_COMPONENT_LEN}
use Rattle.acl_tree.specs.declared.path.TheConstants.{SLASH}

abbrev pub ArePathBytes : List ℕ → Type 0
ArePathBytes bytes = All (λ byte. is_path_byte byte ≡ true) bytes

-- what stands before the first byte before which a component ends
pub front_bytes : (text : List ℕ) (n : ℕ) → n ≡ position_or_len ends_component text → n ≤ length text → ArePathBytes (take n text)
front_bytes text n is within k d inside =
    let len : length (take n text) ≡ n = length-take-le n text within in
    let before : k < position_or_len ends_component text = omega arith in
    let below : k < n = omega arith in
    rw get_or-take (not-false (is_path_byte (get_or text k d)) (fails_before_first ends_component text k d before))

slash_in_no_component : (byte : ℕ) → (b : Bool) → (byte == SLASH) ≡ b → is_path_byte byte ≡ true → b ≡ false
slash_in_no_component byte b is path = grind (arith, nat_tests)

lacks_slash : (front : List ℕ) → ArePathBytes front → All (λ byte. (byte == SLASH) ≡ false) front
lacks_slash front are = All-weaker (λ byte. is_path_byte byte ≡ true) (λ byte. (byte == SLASH) ≡ false) (λ byte path. slash_in_no_component byte (byte == SLASH) refl path) front are

pub all_path_bytes : (front : List ℕ) → ArePathBytes front → list_all is_path_byte front ≡ true
all_path_bytes [] are = refl
all_path_bytes (byte ∷ bytes) are =
    ap (λ b. b && list_all is_path_byte bytes) (All-head (λ byte. is_path_byte byte ≡ true) byte bytes are)
    ∙ all_path_bytes bytes (All-tail (λ byte. is_path_byte byte ≡ true) byte bytes are)

-- the last component
pub last_component : (front : List ℕ) → ArePathBytes front → list_all is_component (parts SLASH front) ≡ (is_component front && true)
last_component front are = ap (λ all. list_all is_component all) (slice_split_none (λ byte. byte == SLASH) front (lacks_slash front are))

-- one before a slash
pub component_then : (front more : List ℕ) → ArePathBytes front → list_all is_component (parts SLASH (front ++ SLASH ∷ more)) ≡ (is_component front && list_all is_component (parts SLASH more))
component_then front more are = ap (λ all. list_all is_component all) (slice_split_at (λ byte. byte == SLASH) front SLASH more (lacks_slash front are) refl)

-- the first of these has a byte that no component has
abbrev FirstFails : List (List ℕ) → Type 0
FirstFails [] = ⊥
FirstFails (part ∷ more) = list_all is_path_byte part ≡ false

fails_onto : (byte : ℕ) (all : List (List ℕ)) → FirstFails all → FirstFails (onto_first byte all)
fails_onto byte [] fails = absurd fails
fails_onto byte (part ∷ more) fails = and_right (is_path_byte byte) (list_all is_path_byte part) fails

begins_with_bad : (byte : ℕ) (all : List (List ℕ)) (some : (part : List ℕ) × ((more : List (List ℕ)) × (all ≡ part ∷ more))) → is_path_byte byte ≡ false → FirstFails (onto_first byte all)
begins_with_bad byte all some bad =
    subst (λ all. FirstFails (onto_first byte all)) (sym some.1.1) (ap (λ b. b && list_all is_path_byte some.0) bad)

some_of : (all : List (List ℕ)) → 0 < length all → (part : List ℕ) × ((more : List (List ℕ)) × (all ≡ part ∷ more))
some_of [] some = absurd (omega arith)
some_of (part ∷ more) some = (part, (more, refl))

bad_first : (front tail : List ℕ) (byte : ℕ) → ArePathBytes front → is_path_byte byte ≡ false → (byte == SLASH) ≡ false → FirstFails (parts SLASH (front ++ byte ∷ tail))
bad_first [] tail byte are bad other =
    subst FirstFails (sym (slice_split-cons_no (λ b. b == SLASH) byte tail other))
    (begins_with_bad byte (parts SLASH tail) (some_of (parts SLASH tail) (omega (arith, length-slice_split (λ b. b == SLASH) tail))) bad)
bad_first (first ∷ front) tail byte are bad other =
    subst FirstFails (sym (slice_split-cons_no (λ b. b == SLASH) first (front ++ byte ∷ tail) (All-head (λ b. (b == SLASH) ≡ false) first front (lacks_slash (first ∷ front) are))))
    (fails_onto first (parts SLASH (front ++ byte ∷ tail)) (bad_first front tail byte (All-tail (λ b. is_path_byte b ≡ true) first front are) bad other))

middle_false : (a b c d e : Bool) → c ≡ false → (a && b && c && d && e) ≡ false
middle_false a b true d e is = cc
middle_false true true false d e is = refl
middle_false true false false d e is = refl
middle_false false b false d e is = refl

first_fails_all : (all : List (List ℕ)) → FirstFails all → list_all is_component all ≡ false
first_fails_all [] fails = absurd fails
first_fails_all (part ∷ more) fails =
    and_left (is_component part) (list_all is_component more)
    (middle_false (nat_lt 0 (length part)) (nat_le (length part) MAX_COMPONENT_LEN) (list_all is_path_byte part) (not (bytes_eq part (codes "."))) (not (bytes_eq part (codes ".."))) fails)

-- a byte that no path has
pub other_byte : (front tail : List ℕ) (byte : ℕ) → ArePathBytes front → is_path_byte byte ≡ false → (byte == SLASH) ≡ false → list_all is_component (parts SLASH (front ++ byte ∷ tail)) ≡ false
other_byte front tail byte are bad other = first_fails_all (parts SLASH (front ++ byte ∷ tail)) (bad_first front tail byte are bad other)

-- the text is one component, or none
pub at_end : (text : List ℕ) (n : ℕ) → n ≡ position_or_len ends_component text → n ≡ length text → ArePathBytes text × (list_all is_component (parts SLASH text) ≡ (is_component text && true))
at_end text n is whole =
    let are : ArePathBytes text = λ k d inside. not-false (is_path_byte (get_or text k d)) (fails_before_first ends_component text k d (omega (arith, is, whole, inside))) in
    (are, last_component text are)

-- the first component ends before a slash
pub at_slash : (text : List ℕ) (n : ℕ) → n ≡ position_or_len ends_component text → n < length text → get_or text n 0 ≡ SLASH
    → ArePathBytes (take n text) × (list_all is_component (parts SLASH text) ≡ (is_component (take n text) && list_all is_component (parts SLASH (drop (n + 1) text))))
at_slash text n is below slash =
    let are = front_bytes text n is (omega (arith, below)) in
    let cut : text ≡ take n text ++ (get_or text n 0 ∷ drop (n + 1) text) =
    subst (λ m. text ≡ take m text ++ (get_or text m 0 ∷ drop (m + 1) text)) (sym is) (split_at_first ends_component text 0 (omega (arith, is, below))) in
    (are, ap (λ all. list_all is_component (parts SLASH all)) (cut ∙ ap (λ byte. take n text ++ (byte ∷ drop (n + 1) text)) slash) ∙ component_then (take n text) (drop (n + 1) text) are)

-- or before a byte that no path has
pub at_other : (text : List ℕ) (n : ℕ) → n ≡ position_or_len ends_component text → n < length text → (get_or text n 0 == SLASH) ≡ false → list_all is_component (parts SLASH text) ≡ false
at_other text n is below other =
    let are = front_bytes text n is (omega (arith, below)) in
    let cut : text ≡ take n text ++ (get_or text n 0 ∷ drop (n + 1) text) =
    subst (λ m. text ≡ take m text ++ (get_or text m 0 ∷ drop (m + 1) text)) (sym is) (split_at_first ends_component text 0 (omega (arith, is, below))) in
    let bad : is_path_byte (get_or text n 0) ≡ false =
    not-true (is_path_byte (get_or text n 0)) (subst (λ m. ends_component (get_or text m 0) ≡ true) (sym is) (passes_at_first ends_component text 0 (omega (arith, is, below)))) in
    ap (λ all. list_all is_component (parts SLASH all)) cut ∙ other_byte (take n text) (drop (n + 1) text) (get_or text n 0) are bad other

pub not_same : (x y : ℕ) → x ≢ y → (x == y) ≡ false
not_same x y differ = grind (arith, nat_tests)

-- What a list with a mode set denies those whom the old list names.
use Rattle.std.proofs.Common.{◌≡◌, ℕ, Bool, true, false, cond, not, ◌&&◌, ◌||◌, refl, sym, ap, ◌∙◌, List, [], ◌∷◌, ◌++◌, ap₂, filter, map}
use mathlib.Core.Path.{fun_ext}
use Rattle.std.specs.List.{list_any}
use Rattle.std.proofs.lemmas.Bool.{true≢false, and_parts, and_from, eqb-true, eq-eqb, not-true}
use Rattle.std.proofs.lemmas.List.Folds.{list_any-append}
use Rattle.std.proofs.Math.Bool.{or-true, or_assoc as or_assoc_bool}
use Rattle.acl_names.specs.Bits.{has, without, union, ◌∪◌}
use Rattle.acl_nfs4.specs.Ace.{decides, is_allow, is_deny, unless_empty, Nfsace4}
use Rattle.acl_nfs4.specs.Who.{is_special, flags_of_who, same_who}
use Rattle.acl_nfs4.specs.Mask.{mode_bits, rest_of}
use Rattle.acl_nfs4.specs.ModeChange.{kept_of_list, kept_mask, without_repeats, named_whos, denied_to, denial_of, denials, kept_of_entry, names}
use Rattle.acl_nfs4.specs.declared.ace.AceType.{AceType}
use Rattle.acl_nfs4.specs.declared.ace.AceType.TheVariants.{Allow, Deny}
use Rattle.acl_nfs4.specs.declared.who.Who.{Who}
use Rattle.acl_nfs4.specs.declared.who.Who.TheVariants.{Owner, Group, Everyone, User, NamedGroup}
use Rattle.acl_names.proofs.BitSets.{has-or, has-zero, has-without, same_bits}
use Rattle.acl_nfs4.proofs.ModeChangeKept.{kept_of-cases, kept-cons, inherited_part, effective_part, reduced, decides-effective_part, decides-reduced, unless_empty-cases}
use Rattle.acl_names.proofs.AnyLemmas.{list_any-elim, list_any-flat_map, list_any-filter, list_any-map, list_any-weaken}
use Rattle.acl_nfs4.proofs.AceLemmas.{by_flags_of_who}

-- ---- whos

pub same_who-refl : (who : Who) → same_who who who ≡ true
same_who-refl Owner = refl
same_who-refl Group = refl
same_who-refl Everyone = refl
same_who-refl (User uid) = eq-eqb uid uid refl
same_who-refl (NamedGroup gid) = eq-eqb gid gid refl

pub same_who-true : (who other : Who) → same_who who other ≡ true → who ≡ other
same_who-true Owner Owner e = refl
same_who-true Group Group e = refl
same_who-true Everyone Everyone e = refl
same_who-true (User uid) (User other) e = ap (λ n. User n) (eqb-true uid other e)
same_who-true (NamedGroup gid) (NamedGroup other) e = ap (λ n. NamedGroup n) (eqb-true gid other e)
same_who-true Owner Group e = absurd (true≢false (sym e))
same_who-true _ _ e = absurd (true≢false (sym e))

-- whether the who is in the list
abbrev pub member : Who → List Who → Bool
member who whos = list_any (λ other. same_who other who) whos

-- ---- named and denied, as tests of the entries

abbrev pub denies : Who → ℕ → Nfsace4 → Bool
denies who bit ace = (decides ace && (is_deny ace.kind && same_who ace.who who)) && has ace.mask bit

has-union : (bit : ℕ) (sets : List ℕ) → has (union sets) bit ≡ list_any (λ set. has set bit) sets
has-union bit [] = has-zero bit
has-union bit (set ∷ sets) = has-or set (union sets) bit ∙ ap (λ b. has set bit || b) (has-union bit sets)

pub has-denied_to : (who : Who) (bit : ℕ) (aces : List Nfsace4) → has (denied_to who aces) bit ≡ list_any (denies who bit) aces
has-denied_to who bit aces =
    has-union bit _
    ∙ list_any-map (λ set. has set bit) (λ (ace : Nfsace4). ace.mask) (filter (λ ace. decides ace && (is_deny ace.kind && same_who ace.who who)) aces)
    ∙ sym (list_any-filter (λ ace. decides ace && (is_deny ace.kind && same_who ace.who who)) (λ ace. has ace.mask bit) aces)

-- ---- the bits denied, entry by entry

or_assoc : (a b c : ℕ) → (a ∪ b) ∪ c ≡ a ∪ (b ∪ c)
or_assoc a b c = same_bits _ _ (λ k.
    has-or (a ∪ b) c k ∙ ap (λ x. x || has c k) (has-or a b k)
    ∙ or_assoc_bool (has a k) (has b k) (has c k)
    ∙ sym (has-or a (b ∪ c) k ∙ ap (λ x. has a k || x) (has-or b c k)))

-- one more entry is looked at
pub denied_to-step : (who : Who) (ace : Nfsace4) (rest : List Nfsace4) (so_far next total : ℕ) (denied : Bool)
    → (decides ace && (is_deny ace.kind && same_who ace.who who)) ≡ denied → next ≡ cond denied (so_far ∪ ace.mask) so_far
    → so_far ∪ denied_to who (ace ∷ rest) ≡ total → next ∪ denied_to who rest ≡ total
denied_to-step who ace rest so_far next total denied is made e =
    ap (λ (n : ℕ). n ∪ denied_to who rest) made ∙ go denied
    ∙ ap (λ b. so_far ∪ union (map (λ (other : Nfsace4). other.mask)
    (cond b (ace ∷ filter (λ other. decides other && (is_deny other.kind && same_who other.who who)) rest)
    (filter (λ other. decides other && (is_deny other.kind && same_who other.who who)) rest)))) (sym is)
    ∙ e
  where
    go : (b : Bool) → cond b (so_far ∪ ace.mask) so_far ∪ denied_to who rest
        ≡ so_far ∪ union (map (λ (other : Nfsace4). other.mask)
        (cond b (ace ∷ filter (λ other. decides other && (is_deny other.kind && same_who other.who who)) rest)
        (filter (λ other. decides other && (is_deny other.kind && same_who other.who who)) rest)))
    go true = or_assoc so_far ace.mask (denied_to who rest)
    go false = refl

-- to leave out those that are the same as one that is there changes no membership
pub member-distinct : (who : Who) (whos : List Who) → member who (without_repeats whos) ≡ member who whos
member-distinct who [] = refl
member-distinct who (other ∷ whos) =
    ap (λ b. same_who other who || b) (sym (list_any-filter (λ w. not (same_who w other)) (λ w. same_who w who) (without_repeats whos)))
    ∙ drop_same (same_who other who) refl
    ∙ ap (λ b. same_who other who || b) (member-distinct who whos)
  where
    drop_same : (b : Bool) → same_who other who ≡ b
        → (b || list_any (λ w. not (same_who w other) && same_who w who) (without_repeats whos)) ≡ (b || member who (without_repeats whos))
    drop_same true e = refl
    drop_same false e = ap (λ test. list_any test (without_repeats whos)) (fun_ext (λ w. differs w (same_who w who) refl (same_who w other) refl))
      where
        differs : (w : Who) (c : Bool) → same_who w who ≡ c → (d : Bool) → same_who w other ≡ d → (not d && c) ≡ c
        differs w c ec false ed = refl
        differs w false ec true ed = refl
        differs w true ec true ed =
            absurd (true≢false (sym (ap (λ x. same_who x who) (sym (same_who-true w other ed)) ∙ ec) ∙ e))

pub member-named_in : (who : Who) (aces : List Nfsace4) → member who (named_whos aces) ≡ list_any (names who) aces
member-named_in who aces =
    member-distinct who _
    ∙ list_any-map (λ other. same_who other who) (λ (ace : Nfsace4). ace.who) (filter (λ ace. decides ace && not (is_special ace.who)) aces)
    ∙ sym (list_any-filter (λ ace. decides ace && not (is_special ace.who)) (λ ace. same_who ace.who who) aces)

-- a who that is named is no special identifier
pub named_not_special : (who : Who) (aces : List Nfsace4) → list_any (names who) aces ≡ true → is_special who ≡ false
named_not_special who aces = list_any-elim (names who) (is_special who ≡ false) each aces
  where
    each : (ace : Nfsace4) → names who ace ≡ true → is_special who ≡ false
    each ace e =
        let parts = and_parts (decides ace && not (is_special ace.who)) (same_who ace.who who) e in
        ap is_special (sym (same_who-true ace.who who parts.1))
        ∙ not-true (is_special ace.who) (and_parts (decides ace) (not (is_special ace.who)) parts.0).1

-- ---- tests of what is kept

pub list_any-kept : (test : Nfsace4 → Bool) (group : ℕ) (aces : List Nfsace4)
    → list_any test (kept_of_list group aces) ≡ list_any (λ ace. list_any test (kept_of_entry group ace)) aces
list_any-kept test group [] = refl
list_any-kept test group (ace ∷ aces) =
    ap (list_any test) (kept-cons group ace aces)
    ∙ list_any-append test (kept_of_entry group ace) (kept_of_list group aces)
    ∙ ap (λ b. list_any test (kept_of_entry group ace) || b) (list_any-kept test group aces)

-- ---- what is denied

-- an entry with a bit is not empty
unless_empty-denies : (who : Who) (bit : ℕ) (ace : Nfsace4) → denies who bit ace ≡ true → list_any (denies who bit) (unless_empty ace) ≡ true
unless_empty-denies who bit ace e =
    unless_empty-cases ace (λ these. list_any (denies who bit) these ≡ true)
    (λ empty. absurd (true≢false (sym (and_parts _ (has ace.mask bit) e).1 ∙ ap (λ m. has m bit) empty ∙ has-zero bit)))
    (λ _. ap (λ b. b || false) e)

kept_mask-denies : (group : ℕ) (ace : Nfsace4) → is_deny ace.kind ≡ true → is_special ace.who ≡ false → kept_mask group ace ≡ ace.mask
unfolding kept_mask
kept_mask-denies group ace deny named =
    ap₂ (λ s a. cond s (without ace.mask mode_bits) (cond a (without ace.mask (rest_of group)) ace.mask)) named (not_allow ace.kind deny)
  where
    not_allow : (kind : AceType) → is_deny kind ≡ true → is_allow kind ≡ false
    not_allow Allow e = sym e
    not_allow Deny e = refl
    not_allow _ e = refl

-- what is denied to a named who is denied still
kept_of-denies : (group : ℕ) (who : Who) (bit : ℕ) → is_special who ≡ false → (ace : Nfsace4) → denies who bit ace ≡ true
    → list_any (denies who bit) (kept_of_entry group ace) ≡ true
kept_of-denies group who bit named ace e =
    kept_of-cases group ace (λ these. list_any (denies who bit) these ≡ true)
    (λ stays. absurd (true≢false (sym decided ∙ stays)))
    (λ d i.
    ap (λ b. denies who bit (inherited_part ace) || b)
    (unless_empty-denies who bit (effective_part group ace) (and_from _ _ (and_from _ _ (decides-effective_part group ace d) denied) has_bit))
    ∙ or-true (denies who bit (inherited_part ace)))
    (λ d i. unless_empty-denies who bit (reduced group ace) (and_from _ _ (and_from _ _ (decides-reduced group ace ∙ d) denied) has_bit))
  where
    outer : ((decides ace && (is_deny ace.kind && same_who ace.who who)) ≡ true) × (has ace.mask bit ≡ true)
    outer = and_parts (decides ace && (is_deny ace.kind && same_who ace.who who)) (has ace.mask bit) e

    inner : (decides ace ≡ true) × ((is_deny ace.kind && same_who ace.who who) ≡ true)
    inner = and_parts (decides ace) (is_deny ace.kind && same_who ace.who who) outer.0

    decided : decides ace ≡ true
    decided = inner.0

    denied : (is_deny ace.kind && same_who ace.who who) ≡ true
    denied = inner.1

    both : (is_deny ace.kind ≡ true) × (same_who ace.who who ≡ true)
    both = and_parts (is_deny ace.kind) (same_who ace.who who) denied

    has_bit : has (kept_mask group ace) bit ≡ true
    has_bit =
        ap (λ m. has m bit) (kept_mask-denies group ace both.0 (ap is_special (same_who-true ace.who who both.1) ∙ named)) ∙ outer.1

-- an entry with no flags of its own decides
pub decides-plain_deny : (who : Who) (mask : ℕ) → decides (record { kind = Deny; flags = flags_of_who who; who = who; mask = mask }) ≡ true
unfolding decides has
decides-plain_deny who mask = by_flags_of_who (λ flags. decides (record { kind = Deny; flags = flags; who = who; mask = mask }) ≡ true) refl refl who

denial_of-denies : (bits : ℕ) (aces : List Nfsace4) (who : Who) (bit : ℕ)
    → has bits bit ≡ true → has (denied_to who aces) bit ≡ false → list_any (denies who bit) (denial_of bits aces who) ≡ true
denial_of-denies bits aces who bit lacks undenied =
    unless_empty-denies who bit _
    (and_from _ _ (and_from _ _ (decides-plain_deny who (without bits (denied_to who aces))) (same_who-refl who))
    (has-without bits (denied_to who aces) bit ∙ and_from _ _ lacks (ap not undenied)))

-- a named user or group is denied each of these bits
pub denied_anyway : (group bits : ℕ) (aces : List Nfsace4) (who : Who) (bit : ℕ)
    → list_any (names who) aces ≡ true → has bits bit ≡ true
    → list_any (denies who bit) (kept_of_list group aces ++ denials bits aces) ≡ true
denied_anyway group bits aces who bit named lacks =
    list_any-append (denies who bit) (kept_of_list group aces) (denials bits aces) ∙ go (list_any (denies who bit) aces) refl
  where
    go : (b : Bool) → list_any (denies who bit) aces ≡ b
        → (list_any (denies who bit) (kept_of_list group aces) || list_any (denies who bit) (denials bits aces)) ≡ true
    go true e =
        ap (λ b. b || list_any (denies who bit) (denials bits aces))
        (list_any-kept (denies who bit) group aces
        ∙ list_any-weaken (denies who bit) (λ ace. list_any (denies who bit) (kept_of_entry group ace))
        (kept_of-denies group who bit (named_not_special who aces named)) aces e)
    go false e =
        ap (λ b. list_any (denies who bit) (kept_of_list group aces) || b)
        (list_any-flat_map (denies who bit) (denial_of bits aces) (named_whos aces)
        ∙ list_any-weaken (λ other. same_who other who) (λ other. list_any (denies who bit) (denial_of bits aces other))
        (λ other same.
        ap (λ w. list_any (denies who bit) (denial_of bits aces w)) (same_who-true other who same)
        ∙ denial_of-denies bits aces who bit lacks (has-denied_to who bit aces ∙ e))
        (named_whos aces) (member-named_in who aces ∙ named))
        ∙ or-true (list_any (denies who bit) (kept_of_list group aces))

-- What an entry leaves beside a mode.
use Rattle.std.proofs.Common.{◌≡◌, ℕ, ◌^◌, Bool, true, false, cond, not, ◌&&◌, ◌||◌, refl, sym, ap, ◌∙◌, subst, List, [], ◌∷◌, ◌++◌, append-nil, ap₂, ◌==◌, flat_map, bit_or}
use Rattle.std.proofs.lemmas.Bool.{true≢false, and_parts, and_from, eqb-true}
use Rattle.std.proofs.lemmas.Grind.{flat_map-append}
use Rattle.std.proofs.Math.Bool.{and-false, or-true}
use Rattle.acl_names.specs.Bits.{has, without}
use Rattle.acl_nfs4.specs.Ace.{decides, is_allow, is_deny, unless_empty, is_inheritable, Nfsace4}
use Rattle.acl_nfs4.specs.Who.{is_special}
use Rattle.acl_nfs4.specs.Flags.{inherit_only, inheritance_flags}
use Rattle.acl_nfs4.specs.Mask.{mode_bits, rest_of}
use Rattle.acl_nfs4.specs.ModeChange.{split, kept_of_part, kept_of_list, kept_mask, kept_of_entry}
use Rattle.acl_names.proofs.BitSets.{has-or, has-without, same_bits}

-- ---- the list, entry by entry

pub kept-cons : (group : ℕ) (ace : Nfsace4) (aces : List Nfsace4) → kept_of_list group (ace ∷ aces) ≡ kept_of_entry group ace ++ kept_of_list group aces
kept-cons group ace aces = flat_map-append (kept_of_part group) (split ace) (flat_map split aces)

pub kept-append : (group : ℕ) (xs ys : List Nfsace4) → kept_of_list group (xs ++ ys) ≡ kept_of_list group xs ++ kept_of_list group ys
kept-append group xs ys =
    ap (flat_map (kept_of_part group)) (flat_map-append split xs ys) ∙ flat_map-append (kept_of_part group) (flat_map split xs) (flat_map split ys)

-- ---- the parts of an entry

-- the part that is only inherited, and the part that only takes effect
abbrev pub inherited_part : Nfsace4 → Nfsace4
inherited_part ace = record ace { flags = bit_or ace.flags (2 ^ inherit_only) }

abbrev pub effective_part : ℕ → Nfsace4 → Nfsace4
effective_part group ace = record ace { flags = without ace.flags inheritance_flags; mask = kept_mask group ace }

abbrev pub reduced : ℕ → Nfsace4 → Nfsace4
reduced group ace = record ace { mask = kept_mask group ace }

pub decides-inherited_part : (ace : Nfsace4) → decides (inherited_part ace) ≡ false
unfolding decides has
decides-inherited_part ace =
    ap (λ b. (is_allow ace.kind || is_deny ace.kind) && not b) (has-or ace.flags (2 ^ inherit_only) inherit_only ∙ or-true (has ace.flags inherit_only))
    ∙ and-false (is_allow ace.kind || is_deny ace.kind)

pub cleared : (flags k : ℕ) → has inheritance_flags k ≡ true → has (without flags inheritance_flags) k ≡ false
cleared flags k e = has-without flags inheritance_flags k ∙ ap (λ b. has flags k && not b) e ∙ and-false (has flags k)

pub decides-effective_part : (group : ℕ) (ace : Nfsace4) → decides ace ≡ true → decides (effective_part group ace) ≡ true
unfolding decides has
decides-effective_part group ace e =
    and_from _ _ (and_parts (is_allow ace.kind || is_deny ace.kind) _ e).0 (ap not (cleared ace.flags inherit_only refl))

pub decides-reduced : (group : ℕ) (ace : Nfsace4) → decides (reduced group ace) ≡ decides ace
unfolding decides
decides-reduced group ace = refl

pub is_inheritable-effective_part : (group : ℕ) (ace : Nfsace4) → is_inheritable (effective_part group ace) ≡ false
unfolding has
is_inheritable-effective_part group ace = ap₂ (λ a b. a || b) (cleared ace.flags 0 refl) (cleared ace.flags 1 refl)

without_twice : (set removed : ℕ) → without (without set removed) removed ≡ without set removed
without_twice set removed = same_bits _ _ (λ k.
    has-without (without set removed) removed k
    ∙ ap (λ b. b && not (has removed k)) (has-without set removed k)
    ∙ again (has set k) (has removed k)
    ∙ sym (has-without set removed k))
  where
    again : (a b : Bool) → ((a && not b) && not b) ≡ (a && not b)
    again true true = refl
    again true false = refl
    again false b = refl

-- what is kept of a mask is kept again
pub kept_mask-twice : (group : ℕ) (ace : Nfsace4) → kept_mask group (reduced group ace) ≡ kept_mask group ace
unfolding kept_mask
kept_mask-twice group ace = go (is_special ace.who) (is_allow ace.kind)
  where
    go : (s a : Bool)
        → cond s (without (cond s (without ace.mask mode_bits) (cond a (without ace.mask (rest_of group)) ace.mask)) mode_bits)
        (cond a (without (cond s (without ace.mask mode_bits) (cond a (without ace.mask (rest_of group)) ace.mask)) (rest_of group))
        (cond s (without ace.mask mode_bits) (cond a (without ace.mask (rest_of group)) ace.mask)))
        ≡ cond s (without ace.mask mode_bits) (cond a (without ace.mask (rest_of group)) ace.mask)
    go true a = without_twice ace.mask mode_bits
    go false true = without_twice ace.mask (rest_of group)
    go false false = refl

kept_mask-effective_part : (group : ℕ) (ace : Nfsace4) → kept_mask group (effective_part group ace) ≡ kept_mask group ace
unfolding kept_mask
kept_mask-effective_part group ace = kept_mask-twice group ace

-- ---- the cases

-- the part that takes effect, before its mask is reduced
abbrev without_inheritance : Nfsace4 → Nfsace4
without_inheritance ace = record ace { flags = without ace.flags inheritance_flags }

restricted-decides : (group : ℕ) (ace : Nfsace4) → decides ace ≡ true → kept_of_part group ace ≡ unless_empty (reduced group ace)
unfolding kept_of_part
restricted-decides group ace e = ap (λ b. cond b (unless_empty (reduced group ace)) (ace ∷ [])) e

restricted-stays : (group : ℕ) (ace : Nfsace4) → decides ace ≡ false → kept_of_part group ace ≡ ace ∷ []
unfolding kept_of_part
restricted-stays group ace e = ap (λ b. cond b (unless_empty (reduced group ace)) (ace ∷ [])) e

decides-without_inheritance : (ace : Nfsace4) → decides ace ≡ true → decides (without_inheritance ace) ≡ true
unfolding decides has
decides-without_inheritance ace e =
    and_from _ _ (and_parts (is_allow ace.kind || is_deny ace.kind) _ e).0 (ap not (cleared ace.flags inherit_only refl))

reduced-without_inheritance : (group : ℕ) (ace : Nfsace4) → unless_empty (reduced group (without_inheritance ace)) ≡ unless_empty (effective_part group ace)
unfolding kept_mask
reduced-without_inheritance group ace = refl

-- an entry that does not decide stays; one that decides and is inherited leaves both parts; another what its mask keeps
pub kept_of-cases : (group : ℕ) (ace : Nfsace4) (P : List Nfsace4 → Type 0)
    → (decides ace ≡ false → P (ace ∷ []))
    → (decides ace ≡ true → is_inheritable ace ≡ true → P (inherited_part ace ∷ unless_empty (effective_part group ace)))
    → (decides ace ≡ true → is_inheritable ace ≡ false → P (unless_empty (reduced group ace)))
    → P (kept_of_entry group ace)
unfolding split
kept_of-cases group ace P stays parts rest = go (decides ace) refl (is_inheritable ace) refl
  where
    alone : (these : List Nfsace4) → kept_of_part group ace ≡ these → P these → P (flat_map (kept_of_part group) (ace ∷ []))
    alone these is p = subst P (sym (append-nil (kept_of_part group ace) ∙ is)) p

    go : (d : Bool) → decides ace ≡ d → (i : Bool) → is_inheritable ace ≡ i
        → P (flat_map (kept_of_part group) (cond (d && i) (inherited_part ace ∷ without_inheritance ace ∷ []) (ace ∷ [])))
    go true ed true ei =
        subst P
        (sym (ap₂ (λ xs ys. xs ++ (ys ++ []))
        (restricted-stays group (inherited_part ace) (decides-inherited_part ace))
        (restricted-decides group (without_inheritance ace) (decides-without_inheritance ace ed) ∙ reduced-without_inheritance group ace)
        ∙ ap (λ xs. inherited_part ace ∷ xs) (append-nil (unless_empty (effective_part group ace)))))
        (parts ed ei)
    go true ed false ei = alone (unless_empty (reduced group ace)) (restricted-decides group ace ed) (rest ed ei)
    go false ed i ei = alone (ace ∷ []) (restricted-stays group ace ed) (stays ed)

-- ---- entries that a mode leaves as they are, and entries that it takes away

pub kept-one : (group : ℕ) (ace : Nfsace4) → decides ace ≡ true → is_inheritable ace ≡ false → kept_of_list group (ace ∷ []) ≡ unless_empty (reduced group ace)
kept-one group ace d i =
    kept-cons group ace [] ∙ append-nil (kept_of_entry group ace)
    ∙ kept_of-cases group ace (λ these. these ≡ unless_empty (reduced group ace))
    (λ e. absurd (true≢false (sym d ∙ e))) (λ _ e. absurd (true≢false (sym e ∙ i))) (λ _ _. refl)

-- an entry is empty or stands alone
pub unless_empty-cases : (ace : Nfsace4) (P : List Nfsace4 → Type 0) → (ace.mask ≡ 0 → P []) → (unless_empty ace ≡ ace ∷ [] → P (ace ∷ [])) → P (unless_empty ace)
unfolding unless_empty
unless_empty-cases ace P empty alone = go (ace.mask == 0) refl
  where
    go : (b : Bool) → (ace.mask == 0) ≡ b → P (cond b [] (ace ∷ []))
    go true e = empty (eqb-true ace.mask 0 e)
    go false e = alone (ap (λ b. cond b [] (ace ∷ [])) e)

-- an entry that takes effect alone and has only bits that are kept stays as it is
pub kept-unchanged : (group : ℕ) (ace : Nfsace4) → decides ace ≡ true → is_inheritable ace ≡ false → kept_mask group ace ≡ ace.mask
    → kept_of_list group (unless_empty ace) ≡ unless_empty ace
kept-unchanged group ace d i same =
    unless_empty-cases ace (λ these. kept_of_list group these ≡ these) (λ _. refl)
    (λ alone. kept-one group ace d i ∙ ap (λ m. unless_empty (record ace { mask = m })) same ∙ alone)

-- an entry that takes effect alone and has none goes
pub kept-none : (group : ℕ) (ace : Nfsace4) → decides ace ≡ true → is_inheritable ace ≡ false → kept_mask group ace ≡ 0
    → kept_of_list group (unless_empty ace) ≡ []
unfolding unless_empty
kept-none group ace d i none =
    unless_empty-cases ace (λ these. kept_of_list group these ≡ []) (λ _. refl)
    (λ alone. kept-one group ace d i ∙ ap (λ m. unless_empty (record ace { mask = m })) none)

-- what is kept is kept again
kept_of-twice : (group : ℕ) (ace : Nfsace4) → kept_of_list group (kept_of_entry group ace) ≡ kept_of_entry group ace
kept_of-twice group ace =
    kept_of-cases group ace (λ these. kept_of_list group these ≡ these)
    (λ d. stays ace d)
    (λ d i.
    kept-append group (inherited_part ace ∷ []) (unless_empty (effective_part group ace))
    ∙ ap₂ (λ xs ys. xs ++ ys) (stays (inherited_part ace) (decides-inherited_part ace))
    (kept-unchanged group (effective_part group ace) (decides-effective_part group ace d) (is_inheritable-effective_part group ace) (kept_mask-effective_part group ace)))
    (λ d i. kept-unchanged group (reduced group ace) (decides-reduced group ace ∙ d) i (kept_mask-twice group ace))
  where
    stays : (other : Nfsace4) → decides other ≡ false → kept_of_list group (other ∷ []) ≡ other ∷ []
    stays other d =
        kept-cons group other [] ∙ append-nil (kept_of_entry group other)
        ∙ kept_of-cases group other (λ these. these ≡ other ∷ [])
        (λ _. refl) (λ e _. absurd (true≢false (sym e ∙ d))) (λ e _. absurd (true≢false (sym e ∙ d)))

pub kept-twice : (group : ℕ) (aces : List Nfsace4) → kept_of_list group (kept_of_list group aces) ≡ kept_of_list group aces
kept-twice group [] = refl
kept-twice group (ace ∷ aces) =
    ap (kept_of_list group) (kept-cons group ace aces)
    ∙ kept-append group (kept_of_entry group ace) (kept_of_list group aces)
    ∙ ap₂ (λ xs ys. xs ++ ys) (kept_of-twice group ace) (kept-twice group aces)
    ∙ sym (kept-cons group ace aces)

-- What entries say of a bit, and who may delete a file, place by place.
use Rattle.std.proofs.Common.{◌≡◌, ◌∙◌, ◌+◌, ◌<◌, ◌^◌, ◌++◌, ◌&&◌, ℕ, suc, zero, Bool, true, false, cond, List, [], ◌∷◌, Some, None, ap, arith, drop, drop-cons, find, get_or, length, map, option_map, refl, sym, take}
use Rattle.std.specs.List.{zip}
use Rattle.std.proofs.lemmas.List.{take-append-drop, take_more}
use Rattle.std.proofs.lemmas.Slice.Zip.{get_or-zip, length-zip}
use Rattle.acl_names.specs.Bits.{has, has_all}
use Rattle.acl_nfs4.specs.Ace.{Nfsace4, decides, is_allow}
use Rattle.acl_nfs4.specs.Evaluation.{speaks, verdict}
use Rattle.acl_nfs4.specs.declared.ace.AceType.{AceType}
use Rattle.acl_nfs4.specs.declared.ace.AceType.TheVariants.{Alarm, Allow, Audit, Deny}
use Rattle.acl_nfs4.specs.declared.who.Who.{Who}
use Rattle.acl_nfs4.proofs.EvaluationLemmas.{verdict-append, or_else}
use Rattle.acl_nfs4.proofs.MaskBits.{contains-one}
use Rattle.acl_access.specs.Marks.{places_from}
use Rattle.acl_access.proofs.ReachLemmas.{next_place}

-- ---- an entry

and_true : (a b c : Bool) → (a && b) ≡ true → (a && (b && c)) ≡ c
and_true true true c is = refl
and_true true false c is = cc
and_true false b c is = cc

and_false : (a b c : Bool) → (a && b) ≡ false → (a && (b && c)) ≡ false
and_false true true c is = cc
and_false true false c is = refl
and_false false b c is = refl

pub speaks_if : (applies : Who → Bool) (place : ℕ) (ace : Nfsace4) (bit : ℕ) (result : Bool) → bit ≡ 2 ^ place → (decides ace && applies ace.who) ≡ true → result ≡ has_all ace.mask bit
    → result ≡ speaks applies place ace
unfolding speaks
speaks_if applies place ace bit result is concerned found =
    found ∙ ap (has_all ace.mask) is ∙ contains-one ace.mask place ∙ sym (and_true (decides ace) (applies ace.who) (has ace.mask place) concerned)

pub silent_if : (applies : Who → Bool) (place : ℕ) (ace : Nfsace4) → (decides ace && applies ace.who) ≡ false → speaks applies place ace ≡ false
unfolding speaks
silent_if applies place ace silent = and_false (decides ace) (applies ace.who) (has ace.mask place) silent

-- ---- the first that speaks

pub not_allow : (kind : AceType) → (kind ≡ Allow → ⊥) → false ≡ is_allow kind
not_allow Allow other = absurd (other refl)
not_allow Deny other = refl
not_allow Audit other = refl
not_allow Alarm other = refl

module _ (applies : Who → Bool) (place : ℕ) where
  said_by : (ace : Nfsace4) (aces : List Nfsace4) → speaks applies place ace ≡ true → verdict applies place (ace ∷ aces) ≡ Some (is_allow ace.kind)
  said_by ace aces is = ap (λ b. option_map (λ (ace : Nfsace4). is_allow ace.kind) (cond b (Some ace) (find (speaks applies place) aces))) is

  module _ (aces : List Nfsace4) (at : ℕ) (ace : Nfsace4) (within : at < length aces) (here : get_or aces at ace ≡ ace) (before : verdict applies place (take at aces) ≡ None) where
    pub none_so_far : speaks applies place ace ≡ false → verdict applies place (take (at + 1) aces) ≡ None
    none_so_far silent =
        ap (verdict applies place) (take_more aces at ace within ∙ ap (λ ace. take at aces ++ ace ∷ []) here)
        ∙ verdict-append applies place (take at aces) (ace ∷ [])
        ∙ ap (λ first. or_else first (verdict applies place (ace ∷ []))) before
        ∙ ap (λ b. option_map (λ (ace : Nfsace4). is_allow ace.kind) (cond b (Some ace) None)) silent

    pub first_found : speaks applies place ace ≡ true → verdict applies place aces ≡ Some (is_allow ace.kind)
    first_found is =
        ap (verdict applies place) (sym (take-append-drop at aces) ∙ ap (λ rest. take at aces ++ rest) (drop-cons aces at ace within ∙ ap (λ ace. ace ∷ drop (suc at) aces) here))
        ∙ verdict-append applies place (take at aces) (ace ∷ drop (suc at) aces)
        ∙ ap (λ first. or_else first (verdict applies place (ace ∷ drop (suc at) aces))) before
        ∙ said_by ace (drop (suc at) aces) is

-- ---- those who may delete

places_shown : {X Y : Type 0} (test : Y → Bool) (shown : X → Y) (place : ℕ) (items : List X) → places_from test place (map shown items) ≡ places_from (λ item. test (shown item)) place items
places_shown test shown place [] = refl
places_shown test shown place (item ∷ items) =
    ap (λ rest. cond (test (shown item)) (place ∷ rest) rest) (places_shown test shown (place + 1) items)

zip_shown : {X Y Z : Type 0} (one : X → Y) (other : X → Z) (items : List X) → zip (map one items) (map other items) ≡ map (λ item. (one item, other item)) items
zip_shown one other [] = refl
zip_shown one other (item ∷ items) = ap (λ rest. (one item, other item) ∷ rest) (zip_shown one other items)

-- by what each of them is to two things
pub places_of_pairs : {X Y Z : Type 0} (test : Y × Z → Bool) (one : X → Y) (other : X → Z) (items : List X)
    → places_from test 0 (zip (map one items) (map other items)) ≡ places_from (λ item. test (one item, other item)) 0 items
places_of_pairs test one other items =
    ap (places_from test 0) (zip_shown one other items) ∙ places_shown test (λ item. (one item, other item)) 0 items

get_again : {X : Type 0} (items : List X) (at : ℕ) (default : X) → get_or items at (get_or items at default) ≡ get_or items at default
get_again [] at default = refl
get_again (first ∷ items) zero default = refl
get_again (first ∷ items) (suc at) default = get_again items at default

-- one pair more
pub next_pair : {X : Type 0} (one other : List X) (at : ℕ) (default : X) → at < length one → at < length other → (test : X × X → Bool) (old new : List ℕ) (b : Bool)
    → old ≡ places_from test 0 (take at (zip one other)) → b ≡ test (get_or one at default, get_or other at default) → new ≡ old ++ cond b (at ∷ []) []
    → new ≡ places_from test 0 (take (at + 1) (zip one other))
next_pair {X} one other at default within_one within_other test old new b was is more =
    let item : X × X = (get_or one at default, get_or other at default) in
    let within : at < length (zip one other) = omega (arith, length-zip one other, within_one, within_other) in
    let here : get_or (zip one other) at item ≡ item =
    get_or-zip one other at item within_one within_other ∙ (λ i. (get_again one at default i, get_again other at default i)) in
    next_place (zip one other) at item within here test old new b was is more

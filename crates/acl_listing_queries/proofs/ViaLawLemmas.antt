-- The entries that are named decide.
use Rattle.std.proofs.Common.{◌≡◌, ◌∙◌, ◌^◌, ◌==◌, ◌⊎◌, ℕ, Bool, true, false, List, [], ◌∷◌, Option, Some, None, IsSomeAnd, cond, flat_map, inl, inr, map, option_to_list, refl, slice_get, subst, sym}
use Rattle.std.specs.List.{list_any}
use Rattle.std.proofs.lemmas.Bool.{eqb-true, false≢true, or_cases}
use Rattle.std.proofs.lemmas.List.Folds.{list_any-append}
use Rattle.acl_names.specs.Bits.{has, has_all}
use Rattle.acl_nfs4.specs.Ace.{Nfsace4, is_allow}
use Rattle.acl_nfs4.specs.Evaluation.{allows}
use Rattle.acl_nfs4.specs.declared.who.Who.{Who}
use Rattle.acl_nfs4.proofs.MaskBits.{contains-one}
use Rattle.acl_queries.specs.Explanation.{SaidBy, first_speaker}
use Rattle.acl_queries.proofs.ExplanationLemmas.{classes_decide, first_speakers_decide}
use Rattle.acl_listing_queries.specs.Via.{speaker_of}
use Rattle.acl_listing_queries.specs.ViaLaws.{EntriesGrant, NumbersAllow}

pub entries_grant : EntriesGrant
entries_grant acl owners who perms valid = classes_decide acl owners.owner owners.group who perms valid

module _ (applies : Who → Bool) (bits : ℕ) (aces : List Nfsace4) (place : ℕ) (granted : (bit : ℕ) → has bits bit ≡ true → allows applies bit aces ≡ true) where
  abbrev is_place : ℕ → Bool
  is_place other = other == place

  abbrev Allows : Type 0
  Allows = IsSomeAnd (slice_get aces place) (λ ace. is_allow ace.kind ≡ true)

  said : (bit : ℕ) → allows applies bit aces ≡ true → (found : Option ℕ) → first_speaker applies (2 ^ bit) aces ≡ found → list_any is_place (option_to_list found) ≡ true → Allows
  said bit allowed None is named = absurd (false≢true named)
  said bit allowed (Some other) is named = by (slice_get aces place) (subst (λ place. IsSomeAnd (slice_get aces place) (λ ace. allows applies bit aces ≡ is_allow ace.kind)) there answers)
    where
      there : other ≡ place
      there = by_either (or_cases (other == place) false named)
        where
          by_either : ((other == place) ≡ true) ⊎ (false ≡ true) → other ≡ place
          by_either (inl is) = eqb-true other place is
          by_either (inr is) = absurd (false≢true is)

      answers : IsSomeAnd (slice_get aces other) (λ ace. allows applies bit aces ≡ is_allow ace.kind)
      answers = subst (λ found. SaidBy aces found (allows applies bit aces)) is (first_speakers_decide applies bit aces)

      by : (found : Option Nfsace4) → IsSomeAnd found (λ ace. allows applies bit aces ≡ is_allow ace.kind) → IsSomeAnd found (λ ace. is_allow ace.kind ≡ true)
      by None none = none
      by (Some ace) says = sym says ∙ allowed

  of_bit : (bit : ℕ) → list_any is_place (speaker_of applies bits aces (2 ^ bit)) ≡ true → Allows
  of_bit bit named = by (has_all bits (2 ^ bit)) (sym (contains-one bits bit)) named
    where
      by : (b : Bool) → has bits bit ≡ b → list_any is_place (cond b (option_to_list (first_speaker applies (2 ^ bit) aces)) []) ≡ true → Allows
      by true is named = said bit (granted bit is) (first_speaker applies (2 ^ bit) aces) refl named
      by false is named = absurd (false≢true named)

  of_bits : (places : List ℕ) → list_any is_place (flat_map (speaker_of applies bits aces) (map (λ bit. 2 ^ bit) places)) ≡ true → Allows
  of_bits [] named = absurd (false≢true named)
  of_bits (bit ∷ places) named =
      by (or_cases (list_any is_place (speaker_of applies bits aces (2 ^ bit))) (list_any is_place rest) (sym (list_any-append is_place (speaker_of applies bits aces (2 ^ bit)) rest) ∙ named)) (of_bits places)
    where
      rest : List ℕ
      rest = flat_map (speaker_of applies bits aces) (map (λ bit. 2 ^ bit) places)

      by : (list_any is_place (speaker_of applies bits aces (2 ^ bit)) ≡ true) ⊎ (list_any is_place rest ≡ true) → (list_any is_place rest ≡ true → Allows) → Allows
      by (inl here) among = of_bit bit here
      by (inr later) among = among later

pub numbers_allow : NumbersAllow
numbers_allow applies bits aces place granted named =
    of_bits applies bits aces place granted (0 ∷ 1 ∷ 2 ∷ 3 ∷ 4 ∷ 5 ∷ 6 ∷ 7 ∷ 8 ∷ 16 ∷ 17 ∷ 18 ∷ 19 ∷ 20 ∷ []) named

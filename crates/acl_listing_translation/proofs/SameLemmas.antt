-- What is reported beside the translation of an access list decides no reading, writing or executing.
use Rattle.std.proofs.Common.{◌≡◌, ◌∙◌, ◌↔◌, ◌^◌, ℕ, Bool, true, false, cond, ◌&&◌, ◌||◌, not, List, [], ◌∷◌, ◌++◌, Option, Some, None, ap, ap₂, find, map, option_map, refl, subst, sym, unwrap_or}
use Rattle.std.specs.Prelude.{IsTrue}
use Rattle.std.specs.Option.{option_or}
use Rattle.std.proofs.lemmas.List.Folds.{find-append}
use Rattle.std.proofs.Math.Bool.{and-false, or-true}
use Rattle.acl_names.specs.Bits.{has, ◌∩◌}
use Rattle.acl_names.proofs.BitSets.{has-and, has-or, has-zero}
use Rattle.acl_posix.specs.Entry.{EntryValue}
use Rattle.acl_posix.specs.Linux.{linux_list}
use Rattle.acl_posix.specs.Validity.{IsValid}
use Rattle.acl_nfs4.specs.Ace.{Nfsace4, ace_of, decides, is_allow, is_deny}
use Rattle.acl_nfs4.specs.Evaluation.{Grants, allows, speaks}
use Rattle.acl_nfs4.specs.Flags.{inherit_only}
use Rattle.acl_nfs4.specs.Mask.{execute_permission, mask_of, mode_bits, read_permission, write_permission}
use Rattle.acl_nfs4.specs.Who.{matches}
use Rattle.acl_nfs4.specs.declared.ace.AceType.TheVariants.{Allow}
use Rattle.acl_nfs4.specs.declared.who.Who.{Who}
use Rattle.acl_nfs4.specs.declared.who.Who.TheVariants.{Owner, Everyone}
use Rattle.acl_nfs4.proofs.MaskOfModes.{mask_of-within}
use Rattle.acl_bridge.specs.Comparison.{DecidesEachBit}
use Rattle.acl_bridge.specs.Translation.{only_inheriting_flags, translation, with_flags}
use Rattle.acl_bridge.specs.TranslationLaws.{AgreeOn, DecideAlike}
use Rattle.acl_bridge.proofs.ComparisonLemmas.{translation_decides_each_bit}
use Rattle.acl_bridge.proofs.TranslationDecides.{translation_decides_alike}
use Rattle.acl_listings.specs.declared.lists.Lists.TheVariants.{Posix}
use Rattle.acl_listing_translation.specs.Translated.{aces_of, attributes_if, below_of}
use Rattle.acl_listing_translation.specs.declared.lists.TheConstants.{ATTRIBUTES, OWNER_ATTRIBUTES}

or_none : {X : Type 0} (found : Option X) → option_or found None ≡ found
or_none (Some x) = refl
or_none None = refl

only_has : has only_inheriting_flags inherit_only ≡ true
unfolding has
only_has = refl

-- an entry that is only inherited speaks of nothing
inherited_silent : (applies : Who → Bool) (bit : ℕ) (ace : Nfsace4) → speaks applies bit (with_flags only_inheriting_flags ace) ≡ false
unfolding speaks decides
inherited_silent applies bit ace =
    ap (λ b. ((is_allow ace.kind || is_deny ace.kind) && not b) && (applies ace.who && has ace.mask bit))
    (has-or ace.flags only_inheriting_flags inherit_only ∙ ap (λ b. has ace.flags inherit_only || b) only_has ∙ or-true (has ace.flags inherit_only))
    ∙ ap (λ b. b && (applies ace.who && has ace.mask bit)) (and-false (is_allow ace.kind || is_deny ace.kind))

all_inherited : (applies : Who → Bool) (bit : ℕ) (aces : List Nfsace4) → find (speaks applies bit) (map (with_flags only_inheriting_flags) aces) ≡ None
all_inherited applies bit [] = refl
all_inherited applies bit (ace ∷ aces) =
    ap (λ b. cond b (Some (with_flags only_inheriting_flags ace)) (find (speaks applies bit) (map (with_flags only_inheriting_flags) aces))) (inherited_silent applies bit ace)
    ∙ all_inherited applies bit aces

below_silent : (applies : Who → Bool) (bit : ℕ) (default : Option (List EntryValue)) → find (speaks applies bit) (below_of default) ≡ None
below_silent applies bit None = refl
below_silent applies bit (Some default) = all_inherited applies bit (translation (linux_list default))

-- nor does one whose mask lacks the bit
mask_silent : (applies : Who → Bool) (bit : ℕ) (ace : Nfsace4) → has ace.mask bit ≡ false → speaks applies bit ace ≡ false
unfolding speaks
mask_silent applies bit ace lacks =
    ap (λ b. decides ace && (applies ace.who && b)) lacks ∙ ap (λ b. decides ace && b) (and-false (applies ace.who)) ∙ and-false (decides ace)

abbrev owner_ace : Nfsace4
owner_ace = ace_of Allow 0 Owner OWNER_ATTRIBUTES

abbrev everyone_ace : Nfsace4
everyone_ace = ace_of Allow 0 Everyone ATTRIBUTES

attributes_silent : (applies : Who → Bool) (bit : ℕ) (attributes : Bool) → has owner_ace.mask bit ≡ false → has everyone_ace.mask bit ≡ false
    → find (speaks applies bit) (attributes_if attributes) ≡ None
attributes_silent applies bit false owner everyone = refl
attributes_silent applies bit true owner everyone =
    ap₂ (λ a b. cond a (Some owner_ace) (cond b (Some everyone_ace) None)) (mask_silent applies bit owner_ace owner) (mask_silent applies bit everyone_ace everyone)

more_silent : (applies : Who → Bool) (bit : ℕ) (attributes : Bool) (default : Option (List EntryValue)) → has owner_ace.mask bit ≡ false → has everyone_ace.mask bit ≡ false
    → find (speaks applies bit) (below_of default ++ attributes_if attributes) ≡ None
more_silent applies bit attributes default owner everyone =
    find-append (speaks applies bit) (below_of default) (attributes_if attributes)
    ∙ ap₂ option_or (below_silent applies bit default) (attributes_silent applies bit attributes owner everyone)

-- behind silent entries the list allows what it allowed
allowed_same : (applies : Who → Bool) (bit : ℕ) (aces more : List Nfsace4) → find (speaks applies bit) more ≡ None → allows applies bit (aces ++ more) ≡ allows applies bit aces
allowed_same applies bit aces more silent =
    ap (λ found. unwrap_or (option_map (λ (ace : Nfsace4). is_allow ace.kind) found) false)
    (find-append (speaks applies bit) aces more ∙ ap (option_or (find (speaks applies bit) aces)) silent ∙ or_none (find (speaks applies bit) aces))

-- masks that share no bit
apart : (a b bit : ℕ) → a ∩ b ≡ 0 → IsTrue (has a bit) → has b bit ≡ false
apart a b bit none there = go (has a bit) (has b bit) (sym (has-and a b bit) ∙ ap (λ (set : ℕ). has set bit) none ∙ has-zero bit) there
  where
    go : (x y : Bool) → (x && y) ≡ false → IsTrue x → y ≡ false
    go true y e is = e
    go false y e is = absurd (cc)

mode_apart : (mode_bits ∩ owner_ace.mask ≡ 0) × (mode_bits ∩ everyone_ace.mask ≡ 0)
unfolding has
mode_apart = (refl, refl)

module _ (attributes : Bool) (access : List EntryValue) (default : Option (List EntryValue)) where
  abbrev all : List Nfsace4
  all = aces_of attributes (Posix access default)

  -- of a file mode's bits the whole list allows what the translation does
  same_allowed : (applies : Who → Bool) (bit : ℕ) → IsTrue (has mode_bits bit) → allows applies bit all ≡ allows applies bit (translation (linux_list access))
  same_allowed applies bit of_mode =
      allowed_same applies bit (translation (linux_list access)) (below_of default ++ attributes_if attributes)
      (more_silent applies bit attributes default (apart mode_bits owner_ace.mask bit (mode_apart).0 of_mode) (apart mode_bits everyone_ace.mask bit (mode_apart).1 of_mode))

  granted_same : (applies : Who → Bool) (perms : ℕ) → Grants applies (translation (linux_list access)) (mask_of perms) ↔ Grants applies all (mask_of perms)
  granted_same applies perms = (
    λ grants bit there. subst IsTrue (sym (same_allowed applies bit (mask_of-within perms bit there))) (grants bit there),
    λ grants bit there. subst IsTrue (same_allowed applies bit (mask_of-within perms bit there)) (grants bit there),
  )

  agreed : (perms : ℕ) → AgreeOn (linux_list access) (translation (linux_list access)) perms → AgreeOn (linux_list access) all perms
  agreed perms agree = λ own group requester.
      let same = granted_same (matches own group requester) perms in
      let here = agree own group requester in
      (λ granted. same.0 (here.0 granted), λ granted. here.1 (same.1 granted))

  pub decide_alike : IsValid (linux_list access) → DecideAlike (linux_list access) all
  decide_alike valid =
      let alike = translation_decides_alike (linux_list access) valid in
      record {
        to_read = agreed (2 ^ read_permission) alike.to_read;
        to_write = agreed (2 ^ write_permission) alike.to_write;
        to_execute = agreed (2 ^ execute_permission) alike.to_execute;
      }

  -- each of these bits is decided as the permission that it stands for
  pub decides_each_bit : IsValid (linux_list access) → DecidesEachBit (linux_list access) all
  decides_each_bit valid own group requester bit of_mode =
      translation_decides_each_bit (linux_list access) valid own group requester bit of_mode
      ∙ sym (same_allowed (matches own group requester) bit of_mode)

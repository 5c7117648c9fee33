-- A request as one bit: the list that lets read whom a list grants the request.
use Rattle.std.proofs.Common.{◌≡◌, ◌≤◌, ◌^◌, ◌⊎◌, inl, inr, ℕ, zero, suc, Bool, true, false, cond, ◌||◌, refl}
use Rattle.std.proofs.Common.{sym, ap, ap₂, subst, ◌∙◌, List, [], ◌∷◌, Some, length, arith, ◌==◌, map, find}
use Rattle.std.proofs.Common.{option_map, true≢false}
use Rattle.std.specs.List.{filter, list_any}
use Rattle.std.proofs.lemmas.List.Sums.{length-filter}
use Rattle.acl_names.specs.Bits.{has, has_all, ◌∩◌}
use Rattle.acl_names.specs.Requester.{Identity}
use Rattle.acl_names.proofs.AnyLemmas.{list_any-map, list_any-agree}
use Rattle.acl_names.proofs.BitSets.{has-above}
use Rattle.acl_posix.specs.Access.{effective_perms, deciding_set, first_nonempty, is_for_group_of, is_under_mask, under_mask, grants}
use Rattle.acl_posix.specs.Entry.{EntryValue, same_tag, entries_of, perms_of, is_named}
use Rattle.acl_posix.specs.Validity.{IsValid, count_of}
use Rattle.acl_posix.specs.declared.entry.Tag.{Tag}
use Rattle.acl_posix.specs.declared.entry.Tag.TheVariants.{UserObj, User, GroupObj, Group, Mask, Other}
use Rattle.acl_nfs4.specs.Comparison.{decided_at, decided_by}
use Rattle.acl_nfs4.proofs.ComparisonLemmas.{two_groups_suffice}
use Rattle.acl_bridge.specs.Comparison.{GrantAlike, TwoGroupsSuffice, grants_at}
use Rattle.acl_bridge.specs.Translation.{translation}
use Rattle.acl_bridge.proofs.TranslationDecides.{bit_granted}

-- the entries with other permissions
module _ (perms : EntryValue → ℕ) where
  abbrev pub with_perms : EntryValue → EntryValue
  with_perms entry = record { tag = entry.tag; perms = perms entry }

  filter-with : (test : Tag → Bool) (acl : List EntryValue)
      → filter (λ entry. test entry.tag) (map with_perms acl) ≡ map with_perms (filter (λ entry. test entry.tag) acl)
  filter-with test [] = refl
  filter-with test (entry ∷ acl) =
      elim (test entry.tag)
      as (λ b. cond b (with_perms entry ∷ filter (λ (other : EntryValue). test other.tag) (map with_perms acl)) (filter (λ (other : EntryValue). test other.tag) (map with_perms acl))
      ≡ map with_perms (cond b (entry ∷ filter (λ (other : EntryValue). test other.tag) acl) (filter (λ (other : EntryValue). test other.tag) acl)))
      [ true ↦ ap (λ (xs : List EntryValue). with_perms entry ∷ xs) (filter-with test acl) | false ↦ filter-with test acl ]

  length-with : (acl : List EntryValue) → length (map with_perms acl) ≡ length acl
  length-with [] = refl
  length-with (entry ∷ acl) = let rest = length-with acl in omega (arith, rest)

  count-with : (tag : Tag) (acl : List EntryValue) → count_of tag (map with_perms acl) ≡ count_of tag acl
  count-with tag acl =
      sym (length-filter (λ (entry : EntryValue). same_tag entry.tag tag) (map with_perms acl))
      ∙ ap (λ (xs : List EntryValue). length xs) (filter-with (λ (other : Tag). same_tag other tag) acl)
      ∙ length-with (filter (λ entry. same_tag entry.tag tag) acl)
      ∙ length-filter (λ (entry : EntryValue). same_tag entry.tag tag) acl

  pub valid-with : (acl : List EntryValue) → IsValid acl → IsValid (map with_perms acl)
  valid-with acl valid = record {
    user_obj = count-with UserObj acl ∙ valid.user_obj;
    group_obj = count-with GroupObj acl ∙ valid.group_obj;
    other = count-with Other acl ∙ valid.other;
    mask = subst (λ (n : ℕ). n ≤ 1) (sym (count-with Mask acl)) valid.mask;
    users = λ uid. subst (λ (n : ℕ). n ≤ 1) (sym (count-with (User uid) acl)) (valid.users uid);
    groups = λ gid. subst (λ (n : ℕ). n ≤ 1) (sym (count-with (Group gid) acl)) (valid.groups gid);
    masked = λ named. count-with Mask acl
        ∙ valid.masked (sym (list_any-map (λ (entry : EntryValue). is_named entry.tag) with_perms acl) ∙ named);
  }

  first-with : (lists : List (List EntryValue)) → first_nonempty (map (λ acl. map with_perms acl) lists) ≡ map with_perms (first_nonempty lists)
  first-with [] = refl
  first-with ([] ∷ lists) = first-with lists
  first-with ((entry ∷ acl) ∷ lists) = refl

  chosen : (b : Bool) (acl : List EntryValue)
      → cond b (entries_of UserObj (map with_perms acl)) [] ≡ map with_perms (cond b (entries_of UserObj acl) [])
  chosen true acl = filter-with (λ tag. same_tag tag UserObj) acl
  chosen false acl = refl

  deciding-with : (acl : List EntryValue) (owner group : ℕ) (requester : Identity)
      → deciding_set (map with_perms acl) owner group requester ≡ map with_perms (deciding_set acl owner group requester)
  deciding-with acl owner group requester =
      ap first_nonempty
      (ap₂ (λ (xs : List EntryValue) (rest : List (List EntryValue)). xs ∷ rest) (chosen (requester.uid == owner) acl)
      (ap₂ (λ (xs : List EntryValue) (rest : List (List EntryValue)). xs ∷ rest) (filter-with (λ tag. same_tag tag (User requester.uid)) acl)
      (ap₂ (λ (xs : List EntryValue) (rest : List (List EntryValue)). xs ∷ rest) (filter-with (is_for_group_of requester group) acl)
      (ap (λ (xs : List EntryValue). xs ∷ []) (filter-with (λ tag. same_tag tag Other) acl)))))
      ∙ first-with
      (cond (requester.uid == owner) (entries_of UserObj acl) []
      ∷ entries_of (User requester.uid) acl
      ∷ filter (λ entry. is_for_group_of requester group entry.tag) acl
      ∷ entries_of Other acl
      ∷ [])

-- an entry that has the whole of the request may read; the mask lets all who may
abbrev pub reading : ℕ → List EntryValue → EntryValue → ℕ
reading request acl entry = cond (same_tag entry.tag Mask || has_all (effective_perms acl entry) request) (2 ^ 2) 0

abbrev pub as_reading : ℕ → List EntryValue → List EntryValue
as_reading request acl = map (with_perms (reading request acl)) acl

module _ (request : ℕ) (acl : List EntryValue) where
  -- its mask lets read
  mask_reads : (others : List EntryValue) (perms : ℕ) → (perms ≡ 0) ⊎ (perms ≡ 2 ^ 2) → under_mask (perms_of Mask (map (with_perms (reading request acl)) others)) perms ≡ perms
  mask_reads [] perms few = refl
  mask_reads (entry ∷ others) perms few = go (same_tag entry.tag Mask) refl (mask_reads others perms few)
    where
      reads : (p : ℕ) → (p ≡ 0) ⊎ (p ≡ 2 ^ 2) → p ∩ 2 ^ 2 ≡ p
      reads p (inl none) = ap (λ (n : ℕ). n ∩ 2 ^ 2) none ∙ sym none
      reads p (inr all) = ap (λ (n : ℕ). n ∩ 2 ^ 2) all ∙ sym all

      go : (b : Bool) → same_tag entry.tag Mask ≡ b
          → under_mask (perms_of Mask (map (with_perms (reading request acl)) others)) perms ≡ perms
          → under_mask (option_map (λ (other : EntryValue). other.perms) (cond b (Some (with_perms (reading request acl) entry))
          (find (λ other. same_tag other.tag Mask) (map (with_perms (reading request acl)) others)))) perms
          ≡ perms
      go true e rest = ap (λ b. perms ∩ cond (b || has_all (effective_perms acl entry) request) (2 ^ 2) 0) e ∙ reads perms few
      go false e rest = rest

  few_read : (b : Bool) → (cond b (2 ^ 2) 0 ≡ 0) ⊎ (cond b (2 ^ 2) 0 ≡ 2 ^ 2)
  few_read true = inr refl
  few_read false = inl refl

  effective_reading : (entry : EntryValue) → effective_perms (as_reading request acl) (with_perms (reading request acl) entry) ≡ reading request acl entry
  effective_reading entry = go (is_under_mask entry.tag)
    where
      go : (b : Bool) → cond b (under_mask (perms_of Mask (as_reading request acl)) (reading request acl entry)) (reading request acl entry) ≡ reading request acl entry
      go true = mask_reads acl (reading request acl entry) (few_read (same_tag entry.tag Mask || has_all (effective_perms acl entry) request))
      go false = refl

  has_reading : (b : Bool) → has_all (cond b (2 ^ 2) 0) (2 ^ 2) ≡ b
  has_reading true = refl
  has_reading false = refl

  -- no mask decides
  abbrev or_mask : EntryValue → Bool
  or_mask entry = same_tag entry.tag Mask || has_all (effective_perms acl entry) request

  abbrev has_request : EntryValue → Bool
  has_request entry = has_all (effective_perms acl entry) request

  abbrev Same : List EntryValue → Type 0
  Same entries = list_any or_mask entries ≡ list_any has_request entries

  no_mask : (tag : Tag) (test : Tag → Bool) → test Mask ≡ false → test tag ≡ true → same_tag tag Mask ≡ false
  no_mask Mask test none is = absurd (true≢false (sym is ∙ none))
  no_mask _ test none is = refl

  same_of_class : (test : Tag → Bool) → test Mask ≡ false → (entries : List EntryValue) → Same (filter (λ entry. test entry.tag) entries)
  same_of_class test none [] = refl
  same_of_class test none (entry ∷ entries) = go (test entry.tag) refl (same_of_class test none entries)
    where
      go : (b : Bool) → test entry.tag ≡ b → Same (filter (λ (other : EntryValue). test other.tag) entries)
          → Same (cond b (entry ∷ filter (λ (other : EntryValue). test other.tag) entries) (filter (λ (other : EntryValue). test other.tag) entries))
      go true is rest = ap₂ (λ a b. a || b) (ap (λ m. m || has_request entry) (no_mask entry.tag test none is)) rest
      go false is rest = rest

  pick : (entries : List EntryValue) (rest : List (List EntryValue)) → Same entries → Same (first_nonempty rest) → Same (first_nonempty (entries ∷ rest))
  pick [] rest same later = later
  pick (entry ∷ entries) rest same later = same

  same_owner : (b : Bool) → Same (cond b (entries_of UserObj acl) [])
  same_owner true = same_of_class (λ tag. same_tag tag UserObj) refl acl
  same_owner false = refl

  pub granted_as_reading : (owner group : ℕ) (requester : Identity)
      → grants (as_reading request acl) owner group requester (2 ^ 2) ≡ grants acl owner group requester request
  granted_as_reading owner group requester =
      ap (list_any (λ (entry : EntryValue). has_all (effective_perms (as_reading request acl) entry) (2 ^ 2)))
      (deciding-with (reading request acl) acl owner group requester)
      ∙ list_any-map (λ (entry : EntryValue). has_all (effective_perms (as_reading request acl) entry) (2 ^ 2)) (with_perms (reading request acl))
      (deciding_set acl owner group requester)
      ∙ list_any-agree
      (λ (entry : EntryValue). has_all (effective_perms (as_reading request acl) (with_perms (reading request acl) entry)) (2 ^ 2)) or_mask
      (λ entry. ap (λ (n : ℕ). has_all n (2 ^ 2)) (effective_reading entry) ∙ has_reading (or_mask entry))
      (deciding_set acl owner group requester)
      ∙ pick (cond (requester.uid == owner) (entries_of UserObj acl) []) _ (same_owner (requester.uid == owner))
      (pick (entries_of (User requester.uid) acl) _ (same_of_class (λ tag. same_tag tag (User requester.uid)) refl acl)
      (pick (filter (λ entry. is_for_group_of requester group entry.tag) acl) _ (same_of_class (is_for_group_of requester group) refl acl)
      (pick (entries_of Other acl) [] (same_of_class (λ tag. same_tag tag Other) refl acl) refl)))

-- the translation of such a list decides the bit to read as the list grants the request
pub read_as : (acl : List EntryValue) → IsValid acl → (owner group request : ℕ) (requester : Identity)
    → decided_by (translation (as_reading request acl)) owner group requester 0 ≡ grants acl owner group requester request
unfolding has
read_as acl valid owner group request requester =
    sym (bit_granted (as_reading request acl) (valid-with (reading request acl) acl valid) owner group requester 0 refl)
    ∙ granted_as_reading request acl owner group requester

pub two_groups_suffice_posix : TwoGroupsSuffice
unfolding has
two_groups_suffice_posix first second valid_first valid_second owners other_owners request alike requester =
    sym (read_as first valid_first owners.owner owners.group request requester)
    ∙ two_groups_suffice (translation (as_reading request first)) (translation (as_reading request second)) owners other_owners 1
    (λ few at_most bit asked. at_bit bit asked few (alike few at_most)) requester 0 refl
    ∙ read_as second valid_second other_owners.owner other_owners.group request requester
  where
    at_bit : (bit : ℕ) → has 1 bit ≡ true → (few : Identity) → GrantAlike (grants_at first owners) (grants_at second other_owners) request few
        → decided_at (translation (as_reading request first)) owners few bit ≡ decided_at (translation (as_reading request second)) other_owners few bit
    at_bit zero asked few same =
        read_as first valid_first owners.owner owners.group request few ∙ same ∙ sym (read_as second valid_second other_owners.owner other_owners.group request few)
    at_bit (suc bit) asked few same = absurd (true≢false (sym asked ∙ has-above 1 1 (suc bit) (omega arith) (omega arith)))

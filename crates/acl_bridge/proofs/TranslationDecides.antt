-- A valid list and its translation decide alike.
use Rattle.std.proofs.Common.{◌≡◌, ℕ, zero, suc, ◌^◌, ◌≤◌, Bool, true, false, cond, ◌&&◌, refl, sym, ap, ◌∙◌, List, [], ◌∷◌, length, arith, ap₂, ◌==◌, IsTrue}
use Rattle.std.specs.List.{filter, list_any}
use Rattle.std.proofs.lemmas.Bool.{true≢false, eqb-true, and_parts}
use Rattle.std.proofs.lemmas.List.Sums.{length-filter}
use Rattle.acl_names.specs.Bits.{has, has_all, ◌∩◌}
use Rattle.acl_names.specs.Requester.{Identity}
use Rattle.acl_names.proofs.AnyLemmas.{list_any-weaken, list_any-agree}
use Rattle.acl_names.proofs.BitSets.{has-and, has-above}
use Rattle.acl_names.proofs.LettersInTurn.{same_either_way}
use Rattle.acl_posix.specs.Access.{effective_perms, deciding_set, first_nonempty, is_for_group_of, grants}
use Rattle.acl_posix.specs.Entry.{EntryValue, same_tag, entries_of}
use Rattle.acl_posix.specs.Validity.{IsValid, count_of}
use Rattle.acl_posix.specs.declared.entry.Tag.{Tag}
use Rattle.acl_posix.specs.declared.entry.Tag.TheVariants.{UserObj, User, GroupObj, Group, Mask, Other}
use Rattle.acl_posix.proofs.ValidityLemmas.{IsValid-count_of}
use Rattle.acl_nfs4.specs.Evaluation.{allows, Grants}
use Rattle.acl_nfs4.specs.Mask.{mode_bits, mask_of}
use Rattle.acl_nfs4.specs.Who.{matches, who_of}
use Rattle.acl_nfs4.specs.declared.who.Who.{Who}
use Rattle.acl_nfs4.proofs.MaskOfModes.{permission_of, has-mask_of, mask_of-within}
use Rattle.acl_nfs4.proofs.MaskBits.{contains-one}
use Rattle.acl_bridge.specs.Translation.{is_in, translation}
use Rattle.acl_bridge.specs.declared.passes.Class.{Class}
use Rattle.acl_bridge.specs.declared.passes.Class.TheVariants.{Owner, Users, Groups, Others}
use Rattle.acl_bridge.specs.TranslationLaws.{AgreeOn, DecideAlike, GrantsAsMuch, TranslationGrantsEach}
use Rattle.acl_bridge.proofs.TranslationVerdicts.{allows-translation, matching, deciding, FewFor}
use Rattle.acl_bridge.proofs.FilterLemmas.{filter_twice, filter_twice-none, length-filter_twice}

-- ---- a valid list has one entry at most for the owner, and for a user

-- if all entries of a class to which the translation's apply have one tag, there is one at most
pub few : (acl : List EntryValue) → IsValid acl → (applies : Who → Bool) (class : Class) (of : Tag)
    → ((tag : Tag) → is_in class tag ≡ true → applies (who_of tag) ≡ true → same_tag tag of ≡ true) → FewFor acl applies class
few acl valid applies class of only =
    let below : length (matching applies acl class) ≤ length (entries_of of acl) =
    length-filter_twice (λ (entry : EntryValue). is_in class entry.tag) (λ (entry : EntryValue). applies (who_of entry.tag))
    (λ (entry : EntryValue). same_tag entry.tag of) (λ entry. only entry.tag) acl in
    let counted = length-filter (λ (entry : EntryValue). same_tag entry.tag of) acl in
    let once : count_of of acl ≤ 1 = IsValid-count_of acl valid of in
    omega arith

pub owners_alone : (applies : Who → Bool) (tag : Tag) → is_in Owner tag ≡ true → applies (who_of tag) ≡ true → same_tag tag UserObj ≡ true
owners_alone applies UserObj is matches = refl
owners_alone applies (User uid) is matches = absurd (true≢false (sym is))
owners_alone applies GroupObj is matches = absurd (true≢false (sym is))
owners_alone applies (Group gid) is matches = absurd (true≢false (sym is))
owners_alone applies Mask is matches = absurd (true≢false (sym is))
owners_alone applies Other is matches = absurd (true≢false (sym is))

-- ---- what one entry has

has_all-has : (set part k : ℕ) → has_all set part ≡ true → has part k ≡ true → has set k ≡ true
has_all-has set part k whole e =
    (and_parts (has set k) (has part k) (sym (has-and set part k) ∙ ap (λ m. has m k) (eqb-true (set ∩ part) part whole) ∙ e)).0

-- ---- the theorem

module _ (acl : List EntryValue) (valid : IsValid acl) (owner group : ℕ) (requester : Identity) where
  abbrev applies : Who → Bool
  applies = matches owner group requester

  users_alone : (tag : Tag) → is_in Users tag ≡ true → applies (who_of tag) ≡ true → same_tag tag (User requester.uid) ≡ true
  users_alone UserObj is matches = absurd (true≢false (sym is))
  users_alone (User named) is matches = same_either_way named requester.uid ∙ matches
  users_alone GroupObj is matches = absurd (true≢false (sym is))
  users_alone (Group gid) is matches = absurd (true≢false (sym is))
  users_alone Mask is matches = absurd (true≢false (sym is))
  users_alone Other is matches = absurd (true≢false (sym is))

  -- both lists ask the same entries
  the_owner : (requester.uid == owner) ≡ true → (tag : Tag) → (is_in Owner tag && applies (who_of tag)) ≡ same_tag tag UserObj
  the_owner is UserObj = is
  the_owner is _ = refl

  no_owner : (requester.uid == owner) ≡ false → (tag : Tag) → (is_in Owner tag && applies (who_of tag)) ≡ false
  no_owner not UserObj = not
  no_owner not _ = refl

  the_user : (tag : Tag) → (is_in Users tag && applies (who_of tag)) ≡ same_tag tag (User requester.uid)
  the_user (User named) = same_either_way requester.uid named
  the_user _ = refl

  the_groups : (tag : Tag) → (is_in Groups tag && applies (who_of tag)) ≡ is_for_group_of requester group tag
  the_groups UserObj = refl
  the_groups _ = refl

  the_others : (tag : Tag) → (is_in Others tag && applies (who_of tag)) ≡ same_tag tag Other
  the_others UserObj = refl
  the_others _ = refl

  -- the entries of a class that apply are those of a test
  matching-is : (class : Class) (test : Tag → Bool) → ((tag : Tag) → (is_in class tag && applies (who_of tag)) ≡ test tag)
      → matching applies acl class ≡ filter (λ entry. test entry.tag) acl
  matching-is class test same =
      filter_twice (λ (entry : EntryValue). is_in class entry.tag) (λ (entry : EntryValue). applies (who_of entry.tag)) (λ (entry : EntryValue). test entry.tag)
      (λ entry. same entry.tag) acl

  for_owner : (b : Bool) → (requester.uid == owner) ≡ b → matching applies acl Owner ≡ cond b (entries_of UserObj acl) []
  for_owner true is = matching-is Owner (λ tag. same_tag tag UserObj) (the_owner is)
  for_owner false not =
      filter_twice-none (λ (entry : EntryValue). is_in Owner entry.tag) (λ (entry : EntryValue). applies (who_of entry.tag))
      (λ entry. no_owner not entry.tag) acl

  same_deciding : deciding applies acl ≡ deciding_set acl owner group requester
  same_deciding =
      ap first_nonempty
      (ap₂ (λ (entries : List EntryValue) (rest : List (List EntryValue)). entries ∷ rest) (for_owner (requester.uid == owner) refl)
      (ap₂ (λ (entries : List EntryValue) (rest : List (List EntryValue)). entries ∷ rest)
      (matching-is Users (λ tag. same_tag tag (User requester.uid)) the_user)
      (ap₂ (λ (entries : List EntryValue) (rest : List (List EntryValue)). entries ∷ rest)
      (matching-is Groups (is_for_group_of requester group) the_groups)
      (ap (λ (entries : List EntryValue). entries ∷ []) (matching-is Others (λ tag. same_tag tag Other) the_others)))))

  -- of a mode's bit the translation reports what a deciding entry has
  bit_allowed : (bit : ℕ) → has mode_bits bit ≡ true
      → allows applies bit (translation acl)
      ≡ list_any (λ entry. has (effective_perms acl entry) (permission_of bit)) (deciding_set acl owner group requester)
  bit_allowed bit of_mode =
      allows-translation acl applies bit of_mode
      (few acl valid applies Owner UserObj (owners_alone applies))
      (few acl valid applies Users (User requester.uid) users_alone)
      ∙ ap (list_any (λ (entry : EntryValue). has (effective_perms acl entry) (permission_of bit))) same_deciding

  grants_as_much : (perms : ℕ) → IsTrue (grants acl owner group requester perms) → Grants applies (translation acl) (mask_of perms)
  grants_as_much perms granted bit asked =
      let of_mode : has mode_bits bit ≡ true = mask_of-within perms bit asked in
      let has_it : has perms (permission_of bit) ≡ true = sym (has-mask_of perms bit of_mode) ∙ asked in
      bit_allowed bit of_mode
      ∙ list_any-weaken (λ (entry : EntryValue). has_all (effective_perms acl entry) perms)
      (λ (entry : EntryValue). has (effective_perms acl entry) (permission_of bit))
      (λ entry whole. has_all-has (effective_perms acl entry) perms (permission_of bit) whole has_it)
      (deciding_set acl owner group requester) granted

  -- a bit of the mode that is allowed shows that its permission alone is granted
  granted_alone : (bit : ℕ) → has mode_bits bit ≡ true → IsTrue (allows applies bit (translation acl))
      → IsTrue (grants acl owner group requester (2 ^ permission_of bit))
  granted_alone bit of_mode allowed =
      list_any-agree (λ (entry : EntryValue). has_all (effective_perms acl entry) (2 ^ permission_of bit))
      (λ (entry : EntryValue). has (effective_perms acl entry) (permission_of bit))
      (λ entry. contains-one (effective_perms acl entry) (permission_of bit)) (deciding_set acl owner group requester)
      ∙ sym (bit_allowed bit of_mode)
      ∙ allowed

  -- and its verdict is the list's on the permission alone
  pub bit_granted : (bit : ℕ) → has mode_bits bit ≡ true
      → grants acl owner group requester (2 ^ permission_of bit) ≡ allows applies bit (translation acl)
  bit_granted bit of_mode =
      list_any-agree (λ (entry : EntryValue). has_all (effective_perms acl entry) (2 ^ permission_of bit))
      (λ (entry : EntryValue). has (effective_perms acl entry) (permission_of bit))
      (λ entry. contains-one (effective_perms acl entry) (permission_of bit)) (deciding_set acl owner group requester)
      ∙ sym (bit_allowed bit of_mode)

-- a valid list's translation grants whatever the list grants
pub translation_grants_as_much : (acl : List EntryValue) → IsValid acl → GrantsAsMuch acl (translation acl)
translation_grants_as_much acl valid owner group requester perms = grants_as_much acl valid owner group requester perms

-- a valid list and its translation decide alike of the permission of a bit that stands for it
agree_on : (acl : List EntryValue) → IsValid acl → (bit : ℕ) → has mode_bits bit ≡ true → has (mask_of (2 ^ permission_of bit)) bit ≡ true
    → AgreeOn acl (translation acl) (2 ^ permission_of bit)
agree_on acl valid bit of_mode asked owner group requester = (
  grants_as_much acl valid owner group requester (2 ^ permission_of bit),
  λ granted. granted_alone acl valid owner group requester bit of_mode (granted bit asked),
)

pub translation_decides_alike : (acl : List EntryValue) → IsValid acl → DecideAlike acl (translation acl)
unfolding has mask_of
translation_decides_alike acl valid = record {
  to_read = agree_on acl valid 0 refl refl;
  to_write = agree_on acl valid 1 refl refl;
  to_execute = agree_on acl valid 5 refl refl;
}

-- a valid list's translation grants permissions together if the list grants each by itself
pub translation_grants_each : TranslationGrantsEach
unfolding has
translation_grants_each acl valid owner group requester perms small = (alone, together)
  where
    alone : Grants (matches owner group requester) (translation acl) (mask_of perms)
        → (place : ℕ) → IsTrue (has perms place) → IsTrue (grants acl owner group requester (2 ^ place))
    alone granted zero asked = bit_granted acl valid owner group requester 5 refl ∙ granted 5 (has-mask_of perms 5 refl ∙ asked)
    alone granted (suc zero) asked = bit_granted acl valid owner group requester 1 refl ∙ granted 1 (has-mask_of perms 1 refl ∙ asked)
    alone granted (suc (suc zero)) asked = bit_granted acl valid owner group requester 0 refl ∙ granted 0 (has-mask_of perms 0 refl ∙ asked)
    alone granted (suc (suc (suc place))) asked =
        absurd (true≢false (sym asked ∙ has-above 3 perms (suc (suc (suc place))) small (omega arith)))

    together : ((place : ℕ) → IsTrue (has perms place) → IsTrue (grants acl owner group requester (2 ^ place)))
        → Grants (matches owner group requester) (translation acl) (mask_of perms)
    together each bit asked =
        let of_mode : has mode_bits bit ≡ true = mask_of-within perms bit asked in
        sym (bit_granted acl valid owner group requester bit of_mode)
        ∙ each (permission_of bit) (sym (has-mask_of perms bit of_mode) ∙ asked)

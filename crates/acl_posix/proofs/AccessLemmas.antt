-- The access check, case by case.
use Rattle.std.proofs.Common.{◌≡◌, ◌∙◌, ℕ, ◌+◌, ◌≤◌, Bool, true, false, ◌&&◌, ◌||◌, ◌==◌, cond, List, [], ◌∷◌, Option, Some, None, is_some, option_map, find, refl, sym, ap, arith, inl, inr}
use Rattle.std.specs.List.{list_any, filter}
use Rattle.std.specs.Option.{option_map_or}
use Rattle.std.proofs.lemmas.Bool.{cases_Bool, false≢true, le-ltb, lt-ltb}
use Rattle.std.proofs.Math.Bool.{or-false, and-true}
use Rattle.acl_names.specs.Requester.{Identity, is_in_group}
use Rattle.acl_posix.specs.declared.entry.Tag.{Tag}
use Rattle.acl_posix.specs.declared.entry.Tag.TheVariants.{UserObj, User, GroupObj, Group, Mask, Other}
use Rattle.acl_posix.specs.Entry.{EntryValue, same_tag, perms_of}
use Rattle.acl_names.specs.Bits.{has_all}
use Rattle.acl_posix.specs.CheckSteps.{has_tag, tag_answer, tag_has, has_group, group_has, mask_allows}
use Rattle.acl_posix.specs.Validity.{IsValid, count_of}
use Rattle.acl_posix.specs.Access.{is_for_group_of, first_nonempty, is_under_mask, under_mask, effective_perms, grants}
use Rattle.acl_names.proofs.AnyLemmas.{list_any-agree, list_any-filter, list_any-and, list_any-none_and, filter-none}
use Rattle.acl_names.proofs.Counting.{count_by-cons, list_any-count_by}
use Rattle.acl_posix.proofs.PermsLemmas.{has_all-masked}

-- the effective permissions of an entry with the tag, under the mask
abbrev effective_under : Option ℕ → Tag → ℕ → ℕ
effective_under mask tag perms = cond (is_under_mask tag) (under_mask mask perms) perms

owner_entry : (mask : Option ℕ) (tag : Tag) (perms request : ℕ)
    → (same_tag tag UserObj && has_all (effective_under mask tag perms) request) ≡ (same_tag tag UserObj && has_all perms request)
owner_entry mask UserObj perms request = refl
owner_entry mask _ perms request = refl

other_entry : (mask : Option ℕ) (tag : Tag) (perms request : ℕ)
    → (same_tag tag Other && has_all (effective_under mask tag perms) request) ≡ (same_tag tag Other && has_all perms request)
other_entry mask UserObj perms request = refl
other_entry mask _ perms request = refl

under : (mask : Option ℕ) (b : Bool) (perms request : ℕ)
    → (b && has_all (under_mask mask perms) request) ≡ ((b && has_all perms request) && option_map_or (λ limit. has_all limit request) mask true)
under mask true perms request = has_all-masked mask perms request
under mask false perms request = refl

user_entry : (mask : Option ℕ) (uid : ℕ) (tag : Tag) (perms request : ℕ)
    → (same_tag tag (User uid) && has_all (effective_under mask tag perms) request)
    ≡ ((same_tag tag (User uid) && has_all perms request) && option_map_or (λ limit. has_all limit request) mask true)
user_entry mask uid (User other) perms request = under mask (other == uid) perms request
user_entry mask uid _ perms request = refl

group_entry : (mask : Option ℕ) (requester : Identity) (group : ℕ) (tag : Tag) (perms request : ℕ)
    → (is_for_group_of requester group tag && has_all (effective_under mask tag perms) request)
    ≡ ((is_for_group_of requester group tag && has_all perms request) && option_map_or (λ limit. has_all limit request) mask true)
group_entry mask requester group GroupObj perms request = under mask (is_in_group requester group) perms request
group_entry mask requester group (Group gid) perms request = under mask (is_in_group requester gid) perms request
group_entry mask requester group _ perms request = refl

-- a first list with a member is the first that isn't empty
first : (entries : List EntryValue) (rest : List (List EntryValue)) → list_any (λ _. true) entries ≡ true → first_nonempty (entries ∷ rest) ≡ entries
first [] rest some = absurd (false≢true some)
first (entry ∷ entries) rest some = refl

pub only : (entries : List EntryValue) → first_nonempty (entries ∷ []) ≡ entries
only [] = refl
only (entry ∷ entries) = refl

pub first_kept : (p : EntryValue → Bool) (acl : List EntryValue) (rest : List (List EntryValue)) → list_any p acl ≡ true
    → first_nonempty (filter p acl ∷ rest) ≡ filter p acl
first_kept p acl rest some =
    first (filter p acl) rest
    (sym (list_any-filter p (λ _. true) acl) ∙ list_any-agree (λ e. p e && true) p (λ e. and-true (p e)) acl ∙ some)

pub first_dropped : (p : EntryValue → Bool) (acl : List EntryValue) (rest : List (List EntryValue)) → list_any p acl ≡ false
    → first_nonempty (filter p acl ∷ rest) ≡ first_nonempty rest
first_dropped p acl rest none = ap (λ entries. first_nonempty (entries ∷ rest)) (filter-none p acl none)

-- whether one of these has the whole of the request in its effective permissions
abbrev one_has : List EntryValue → ℕ → List EntryValue → Bool
one_has acl request entries = list_any (λ entry. has_all (effective_perms acl entry) request) entries

-- in a valid list there is an entry for the owner
pub has_tag-valid : (acl : List EntryValue) → IsValid acl → has_tag UserObj acl ≡ true
has_tag-valid acl valid =
    let one = valid.user_obj in
    list_any-count_by (λ (entry : EntryValue). same_tag entry.tag UserObj) acl ∙ lt-ltb 0 (count_of UserObj acl) (omega arith)

module _ (acl : List EntryValue) (owner group : ℕ) (requester : Identity) (request : ℕ) where
  abbrev is_for_owner : EntryValue → Bool
  is_for_owner entry = same_tag entry.tag UserObj

  abbrev is_for_user : EntryValue → Bool
  is_for_user entry = same_tag entry.tag (User requester.uid)

  abbrev is_for_group : EntryValue → Bool
  is_for_group entry = is_for_group_of requester group entry.tag

  abbrev is_for_others : EntryValue → Bool
  is_for_others entry = same_tag entry.tag Other

  abbrev has_effective : EntryValue → Bool
  has_effective entry = has_all (effective_perms acl entry) request

  abbrev has_own : EntryValue → Bool
  has_own entry = has_all entry.perms request

  abbrev groups_on : List (List EntryValue)
  groups_on = filter is_for_group acl ∷ filter is_for_others acl ∷ []

  -- the owner's own entry decides
  pub grants-owner : (requester.uid == owner) ≡ true → has_tag UserObj acl ≡ true
      → grants acl owner group requester request ≡ tag_has UserObj acl request
  grants-owner is_owner some =
      ap (λ b. one_has acl request (first_nonempty (cond b (filter is_for_owner acl) [] ∷ filter is_for_user acl ∷ groups_on))) is_owner
      ∙ ap (one_has acl request) (first_kept is_for_owner acl (filter is_for_user acl ∷ groups_on) some)
      ∙ sym (list_any-filter is_for_owner has_effective acl)
      ∙ list_any-agree (λ e. is_for_owner e && has_effective e) (λ e. is_for_owner e && has_own e)
      (λ e. owner_entry (perms_of Mask acl) e.tag e.perms request) acl

  -- past the owner, the lists that are left decide
  past_owner : (requester.uid == owner) ≡ false
      → grants acl owner group requester request ≡ one_has acl request (first_nonempty (filter is_for_user acl ∷ groups_on))
  past_owner not_owner =
      ap (λ b. one_has acl request (first_nonempty (cond b (filter is_for_owner acl) [] ∷ filter is_for_user acl ∷ groups_on))) not_owner

  past_user : (requester.uid == owner) ≡ false → has_tag (User requester.uid) acl ≡ false
      → grants acl owner group requester request ≡ one_has acl request (first_nonempty groups_on)
  past_user not_owner no_user =
      past_owner not_owner ∙ ap (one_has acl request) (first_dropped is_for_user acl groups_on no_user)

  -- the entry of the user decides
  pub grants-user : (requester.uid == owner) ≡ false → has_tag (User requester.uid) acl ≡ true
      → grants acl owner group requester request ≡ (tag_has (User requester.uid) acl request && mask_allows acl request)
  grants-user not_owner some =
      past_owner not_owner
      ∙ ap (one_has acl request) (first_kept is_for_user acl groups_on some)
      ∙ sym (list_any-filter is_for_user has_effective acl)
      ∙ list_any-agree (λ e. is_for_user e && has_effective e) (λ e. (is_for_user e && has_own e) && mask_allows acl request)
      (λ e. user_entry (perms_of Mask acl) requester.uid e.tag e.perms request) acl
      ∙ list_any-and (λ e. is_for_user e && has_own e) (mask_allows acl request) acl

  -- the entries of the requester's groups decide
  pub grants-group : (requester.uid == owner) ≡ false → has_tag (User requester.uid) acl ≡ false → has_group requester group acl ≡ true
      → grants acl owner group requester request ≡ (group_has requester group acl request && mask_allows acl request)
  grants-group not_owner no_user some =
      past_user not_owner no_user
      ∙ ap (one_has acl request) (first_kept is_for_group acl (filter is_for_others acl ∷ []) some)
      ∙ sym (list_any-filter is_for_group has_effective acl)
      ∙ list_any-agree (λ e. is_for_group e && has_effective e) (λ e. (is_for_group e && has_own e) && mask_allows acl request)
      (λ e. group_entry (perms_of Mask acl) requester group e.tag e.perms request) acl
      ∙ list_any-and (λ e. is_for_group e && has_own e) (mask_allows acl request) acl

  -- the entry of the others decides
  pub grants-other : (requester.uid == owner) ≡ false → has_tag (User requester.uid) acl ≡ false → has_group requester group acl ≡ false
      → grants acl owner group requester request ≡ tag_has Other acl request
  grants-other not_owner no_user no_group =
      past_user not_owner no_user
      ∙ ap (one_has acl request) (first_dropped is_for_group acl (filter is_for_others acl ∷ []) no_group ∙ only (filter is_for_others acl))
      ∙ sym (list_any-filter is_for_others has_effective acl)
      ∙ list_any-agree (λ e. is_for_others e && has_effective e) (λ e. is_for_others e && has_own e)
      (λ e. other_entry (perms_of Mask acl) e.tag e.perms request) acl

-- whether there is an entry, by what is found
pub has_tag-perms_of : (tag : Tag) (acl : List EntryValue) → has_tag tag acl ≡ is_some (perms_of tag acl)
has_tag-perms_of tag [] = refl
has_tag-perms_of tag (x ∷ xs) =
    elim (same_tag x.tag tag) as (λ b. (b || has_tag tag xs) ≡ is_some (option_map (λ (e : EntryValue). e.perms) (cond b (Some x) (find (λ (e : EntryValue). same_tag e.tag tag) xs)))) [
      | true ↦ refl
      | false ↦ has_tag-perms_of tag xs
    ]

-- if a tag stands once at most, its entry has the request if what is found has it
pub tag_has-perms_of : (tag : Tag) (acl : List EntryValue) (request : ℕ) → count_of tag acl ≤ 1
    → tag_has tag acl request ≡ option_map_or (λ perms. has_all perms request) (perms_of tag acl) false
tag_has-perms_of tag [] request once = refl
tag_has-perms_of tag (x ∷ xs) request once =
    let has : EntryValue → Bool = λ entry. same_tag entry.tag tag in
    let counts : count_of tag (x ∷ xs) ≡ cond (has x) 1 0 + count_of tag xs = count_by-cons has x xs in
    elim (cases_Bool (has x)) [
      | inl passes ↦
          let one : cond {A = ℕ} (has x) 1 0 ≡ 1 = ap (λ b. cond {A = ℕ} b 1 0) passes in
          let none : has_tag tag xs ≡ false = list_any-count_by has xs ∙ le-ltb 0 (count_of tag xs) (omega arith) in
          rw (passes, list_any-none_and has (λ (e : EntryValue). has_all e.perms request) xs none) (or-false (has_all x.perms request))
      | inr fails ↦
          let zero_more : cond {A = ℕ} (has x) 1 0 ≡ 0 = ap (λ b. cond {A = ℕ} b 1 0) fails in
          rw fails (tag_has-perms_of tag xs request (omega arith))
    ]

-- what a step answers, and that it applies
pub answered : (applies answer given : Bool) → Some given ≡ cond applies (Some answer) None → (applies ≡ true) × (given ≡ answer)
answered true answer given is = (refl, cc)
answered false answer given is = absurd (cc)

pub unanswered : (applies answer : Bool) → None ≡ cond applies (Some answer) None → applies ≡ false
unanswered true answer is = absurd (cc)
unanswered false answer is = refl

-- what an entry that is found answers
pub tag_answer-found : (tag : Tag) (acl : List EntryValue) (request : ℕ) → count_of tag acl ≤ 1 → (perms : ℕ) → Some perms ≡ perms_of tag acl
    → Some (has_all perms request) ≡ tag_answer tag acl request
tag_answer-found tag acl request once perms found =
    let there : has_tag tag acl ≡ true = has_tag-perms_of tag acl ∙ ap is_some (sym found) in
    let has : tag_has tag acl request ≡ has_all perms request =
    tag_has-perms_of tag acl request once ∙ ap (λ o. option_map_or (λ p. has_all p request) o false) (sym found) in
    ap Some (sym has) ∙ sym (ap (λ b. cond b (Some (tag_has tag acl request)) None) there)

pub tag_answer-none : (tag : Tag) (acl : List EntryValue) (request : ℕ) → None ≡ perms_of tag acl → None ≡ tag_answer tag acl request
tag_answer-none tag acl request found =
    let absent : has_tag tag acl ≡ false = has_tag-perms_of tag acl ∙ ap is_some (sym found) in
    sym (ap (λ b. cond b (Some (tag_has tag acl request)) None) absent)

-- What Linux decides, beside what the draft does.
use Rattle.std.proofs.Common.{◌≡◌, ◌∙◌, ℕ, Bool, true, false, ◌&&◌, ◌||◌, ◌==◌, ◌⊎◌, cond, List, Option, Some, None, is_some, unwrap_or, refl, sym, ap, arith, inl, inr}
use Rattle.std.specs.Option.{option_map_or}
use Rattle.std.proofs.lemmas.Bool.{cases_Bool, cases_eq, eq-eqb, ne_eqb, false≢true, lt-ltb}
use Rattle.std.proofs.lemmas.Nat.{and_le_l, and_le_r}
use Rattle.std.proofs.Math.Bool.{and-false, and-true, or-false}
use Rattle.acl_names.proofs.AnyLemmas.{list_any-weaken}
use Rattle.acl_names.proofs.Counting.{list_any-count_by}
use Rattle.acl_names.specs.Bits.{◌∩◌, has_all}
use Rattle.acl_names.specs.Requester.{Identity, is_in_group}
use Rattle.acl_names.proofs.IdTexts.{and_second}
use Rattle.acl_posix.specs.Access.{grants, is_for_group_of}
use Rattle.acl_posix.specs.CheckSteps.{has_tag, tag_has, has_group, group_has, mask_allows}
use Rattle.acl_posix.specs.Entry.{EntryValue, perms_of, same_tag}
use Rattle.acl_posix.specs.Linux.{has_empty_mask, linux_list}
use Rattle.acl_posix.specs.LinuxLaws.{is_named_by, is_named_in, GrantsNoLess, DecidesAlike}
use Rattle.acl_posix.specs.Mode.{Classes, mode_of, of_mode, perms_at}
use Rattle.acl_posix.specs.Validity.{IsValid, count_of}
use Rattle.acl_posix.specs.declared.entry.Tag.{Tag}
use Rattle.acl_posix.specs.declared.entry.Tag.TheVariants.{UserObj, User, GroupObj, Group, Mask, Other}
use Rattle.acl_posix.proofs.AccessLemmas.{grants-owner, grants-user, grants-group, grants-other, has_tag-perms_of, tag_has-perms_of}

-- nothing has the whole of a request only if nothing is requested
whole_of_nothing : (request : ℕ) → has_all 0 request ≡ true → request ≡ 0
whole_of_nothing request whole = elim (cases_eq (0 ∩ request) request) [
  | inl same ↦ let small = and_le_l 0 request in omega arith
  | inr other ↦ absurd (false≢true (sym (ne_eqb (0 ∩ request) request other) ∙ whole))
]

-- and then everything has
nothing_is_had : (set request : ℕ) → has_all 0 request ≡ true → has_all set request ≡ true
nothing_is_had set request whole =
    let none = whole_of_nothing request whole in
    let small = and_le_r set request in
    eq-eqb (set ∩ request) request (omega arith)

-- an entry that stands once is there, and has what is found
has_tag-once : (tag : Tag) (acl : List EntryValue) → count_of tag acl ≡ 1 → has_tag tag acl ≡ true
has_tag-once tag acl once =
    list_any-count_by (λ (entry : EntryValue). same_tag entry.tag tag) acl ∙ lt-ltb 0 (count_of tag acl) (omega arith)

found_has : (found : Option ℕ) (request : ℕ) → is_some found ≡ true
    → option_map_or (λ perms. has_all perms request) found false ≡ has_all (unwrap_or found 0) request
found_has None request some = absurd (false≢true some)
found_has (Some perms) request some = refl

tag_has-once : (tag : Tag) (acl : List EntryValue) (request : ℕ) → count_of tag acl ≡ 1
    → tag_has tag acl request ≡ has_all (perms_at tag acl) request
tag_has-once tag acl request once =
    tag_has-perms_of tag acl request (omega arith)
    ∙ found_has (perms_of tag acl) request (sym (has_tag-perms_of tag acl) ∙ has_tag-once tag acl once)

-- the entry for the file's group is for those who are in it
is_for_file_group : (requester : Identity) (group : ℕ) (tag : Tag) → same_tag tag GroupObj ≡ true
    → is_for_group_of requester group tag ≡ is_in_group requester group
is_for_file_group requester group GroupObj is = refl
is_for_file_group requester group _ is = absurd (false≢true is)

-- an entry for another group of the requester, or for the user, names the requester
is_named_by-group : (requester : Identity) (group : ℕ) → is_in_group requester group ≡ false → (tag : Tag)
    → is_for_group_of requester group tag ≡ true → is_named_by requester tag ≡ true
is_named_by-group requester group outside GroupObj is = absurd (false≢true (sym outside ∙ is))
is_named_by-group requester group outside (Group gid) is = is
is_named_by-group requester group outside _ is = absurd (false≢true is)

is_named_by-user : (requester : Identity) (tag : Tag) → same_tag tag (User requester.uid) ≡ true → is_named_by requester tag ≡ true
is_named_by-user requester (User uid) is = is
is_named_by-user requester _ is = absurd (false≢true is)

-- the check of the list of a mode
module _ (mode : Classes) (owner group : ℕ) (requester : Identity) (request : ℕ) where
  by_mode-owner : (requester.uid == owner) ≡ true → grants (of_mode mode) owner group requester request ≡ has_all mode.user request
  by_mode-owner is_owner =
      grants-owner (of_mode mode) owner group requester request is_owner refl ∙ or-false (has_all mode.user request)

  by_mode-group : (requester.uid == owner) ≡ false → is_in_group requester group ≡ true
      → grants (of_mode mode) owner group requester request ≡ has_all mode.group request
  by_mode-group not_owner inside =
      grants-group (of_mode mode) owner group requester request not_owner refl (ap (λ b. b || false) inside)
      ∙ and-true ((is_in_group requester group && has_all mode.group request) || false)
      ∙ or-false (is_in_group requester group && has_all mode.group request)
      ∙ ap (λ b. b && has_all mode.group request) inside

  by_mode-other : (requester.uid == owner) ≡ false → is_in_group requester group ≡ false
      → grants (of_mode mode) owner group requester request ≡ has_all mode.other request
  by_mode-other not_owner outside =
      grants-other (of_mode mode) owner group requester request not_owner refl (ap (λ b. b || false) outside)
      ∙ or-false (has_all mode.other request)

module _ (acl : List EntryValue) (valid : IsValid acl) (empty : perms_of Mask acl ≡ Some 0) where
  -- the mask stands for the group in the mode
  group_has_none : (mode_of acl).group ≡ 0
  group_has_none = ap (λ found. perms_at (cond (is_some found) Mask GroupObj) acl) empty ∙ ap (λ found. unwrap_or found 0) empty

  nothing_allowed : (request : ℕ) → mask_allows acl request ≡ has_all 0 request
  nothing_allowed request = ap (λ found. option_map_or (λ mask. has_all mask request) found true) empty

  module _ (owner group : ℕ) (requester : Identity) (request : ℕ) where
    -- what the group's entry, which is the file's group's and has nothing, grants in the mode
    in_mode-group : (requester.uid == owner) ≡ false → is_in_group requester group ≡ true
        → grants (of_mode (mode_of acl)) owner group requester request ≡ has_all 0 request
    in_mode-group not_owner inside =
        by_mode-group (mode_of acl) owner group requester request not_owner inside ∙ ap (λ perms. has_all perms request) group_has_none

    -- if nothing is requested, the mode grants it
    in_mode-nothing : has_all 0 request ≡ true → grants (of_mode (mode_of acl)) owner group requester request ≡ true
    in_mode-nothing whole = elim (cases_Bool (requester.uid == owner)) [
      | inl is_owner ↦
          by_mode-owner (mode_of acl) owner group requester request is_owner ∙ nothing_is_had (mode_of acl).user request whole
      | inr not_owner ↦ elim (cases_Bool (is_in_group requester group)) [
        | inl inside ↦ in_mode-group not_owner inside ∙ whole
        | inr outside ↦
            by_mode-other (mode_of acl) owner group requester request not_owner outside ∙ nothing_is_had (mode_of acl).other request whole
      ]
    ]

    -- the owner's entry and the others' decide as they do
    same-owner : (requester.uid == owner) ≡ true
        → grants (of_mode (mode_of acl)) owner group requester request ≡ grants acl owner group requester request
    same-owner is_owner =
        by_mode-owner (mode_of acl) owner group requester request is_owner
        ∙ sym (tag_has-once UserObj acl request valid.user_obj)
        ∙ sym (grants-owner acl owner group requester request is_owner (has_tag-once UserObj acl valid.user_obj))

    -- the file's group has an entry
    in_group : has_group requester group acl ≡ false → is_in_group requester group ≡ false
    in_group none = elim (cases_Bool (is_in_group requester group)) [
      | inl inside ↦ absurd (false≢true (sym none ∙ list_any-weaken (λ entry. same_tag entry.tag GroupObj) (λ entry. is_for_group_of requester group entry.tag)
          (λ entry is. is_for_file_group requester group entry.tag is ∙ inside) acl (has_tag-once GroupObj acl valid.group_obj)))
      | inr outside ↦ outside
    ]

    same-other : (requester.uid == owner) ≡ false → has_tag (User requester.uid) acl ≡ false → has_group requester group acl ≡ false
        → grants (of_mode (mode_of acl)) owner group requester request ≡ grants acl owner group requester request
    same-other not_owner no_user no_group =
        by_mode-other (mode_of acl) owner group requester request not_owner (in_group no_group)
        ∙ sym (tag_has-once Other acl request valid.other)
        ∙ sym (grants-other acl owner group requester request not_owner no_user no_group)

    -- entries under the empty mask grant nothing
    granted-nothing : (answer : Bool) → grants acl owner group requester request ≡ (answer && mask_allows acl request)
        → grants acl owner group requester request ≡ true → has_all 0 request ≡ true
    granted-nothing answer is granted = sym (nothing_allowed request) ∙ and_second answer (mask_allows acl request) (sym is ∙ granted)

    no_less : grants acl owner group requester request ≡ true → grants (of_mode (mode_of acl)) owner group requester request ≡ true
    no_less granted = elim (cases_Bool (requester.uid == owner)) [
      | inl is_owner ↦ same-owner is_owner ∙ granted
      | inr not_owner ↦ elim (cases_Bool (has_tag (User requester.uid) acl)) [
        | inl user ↦ in_mode-nothing (granted-nothing (tag_has (User requester.uid) acl request) (grants-user acl owner group requester request not_owner user) granted)
        | inr no_user ↦ elim (cases_Bool (has_group requester group acl)) [
          | inl some ↦ in_mode-nothing (granted-nothing (group_has requester group acl request) (grants-group acl owner group requester request not_owner no_user some) granted)
          | inr no_group ↦ same-other not_owner no_user no_group ∙ granted
        ]
      ]
    ]

    module _ (unnamed : is_named_in acl requester ≡ false) where
      no_user_named : has_tag (User requester.uid) acl ≡ false
      no_user_named = elim (cases_Bool (has_tag (User requester.uid) acl)) [
        | inl some ↦ absurd (false≢true (sym unnamed
            ∙ list_any-weaken (λ entry. same_tag entry.tag (User requester.uid)) (λ entry. is_named_by requester entry.tag)
            (λ entry is. is_named_by-user requester entry.tag is) acl some))
        | inr none ↦ none
      ]

      -- only the entry of the file's group can be for a group of the requester
      only_file_group : has_group requester group acl ≡ true → is_in_group requester group ≡ true
      only_file_group some = elim (cases_Bool (is_in_group requester group)) [
        | inl inside ↦ inside
        | inr outside ↦ absurd (false≢true (sym unnamed
            ∙ list_any-weaken (λ entry. is_for_group_of requester group entry.tag) (λ entry. is_named_by requester entry.tag)
            (λ entry is. is_named_by-group requester group outside entry.tag is) acl some))
      ]

      same-group : (requester.uid == owner) ≡ false → has_group requester group acl ≡ true
          → grants (of_mode (mode_of acl)) owner group requester request ≡ grants acl owner group requester request
      same-group not_owner some =
          let denied : (group_has requester group acl request && has_all 0 request) ≡ has_all 0 request =
          elim (cases_Bool (has_all 0 request)) [
            | inl whole ↦ rw (whole, has_nothing some whole) refl
            | inr lacks ↦ rw lacks (and-false (group_has requester group acl request))
          ] in
          in_mode-group not_owner (only_file_group some)
          ∙ sym (grants-group acl owner group requester request not_owner no_user_named some
          ∙ ap (λ b. group_has requester group acl request && b) (nothing_allowed request) ∙ denied)
        where
          has_nothing : has_group requester group acl ≡ true → has_all 0 request ≡ true → group_has requester group acl request ≡ true
          has_nothing is whole = list_any-weaken (λ entry. is_for_group_of requester group entry.tag)
              (λ entry. is_for_group_of requester group entry.tag && has_all entry.perms request)
              (λ entry for. rw (for, nothing_is_had entry.perms request whole) refl) acl is

      alike : grants (of_mode (mode_of acl)) owner group requester request ≡ grants acl owner group requester request
      alike = elim (cases_Bool (requester.uid == owner)) [
        | inl is_owner ↦ same-owner is_owner
        | inr not_owner ↦ elim (cases_Bool (has_group requester group acl)) [
          | inl some ↦ same-group not_owner some
          | inr none ↦ same-other not_owner no_user_named none
        ]
      ]

-- the mask is there and empty, or the list itself decides
cases_mask : (acl : List EntryValue) → (perms_of Mask acl ≡ Some 0) ⊎ (has_empty_mask acl ≡ false)
cases_mask acl = by (perms_of Mask acl) refl
  where
    by : (found : Option ℕ) → perms_of Mask acl ≡ found → (perms_of Mask acl ≡ Some 0) ⊎ (has_empty_mask acl ≡ false)
    by None is = inr (ap (λ o. option_map_or (λ mask. mask == 0) o false) is)
    by (Some mask) is = elim (cases_eq mask 0) [
      | inl none ↦ inl (is ∙ ap Some none)
      | inr some ↦ inr (ap (λ o. option_map_or (λ m. m == 0) o false) is ∙ ne_eqb mask 0 some)
    ]

by_mode : (acl : List EntryValue) → perms_of Mask acl ≡ Some 0 → linux_list acl ≡ of_mode (mode_of acl)
by_mode acl empty =
    ap (λ b. cond b (of_mode (mode_of acl)) acl) (ap (λ o. option_map_or (λ mask. mask == 0) o false) empty)

pub by_itself : (acl : List EntryValue) → has_empty_mask acl ≡ false → linux_list acl ≡ acl
by_itself acl is = ap (λ b. cond b (of_mode (mode_of acl)) acl) is

-- the check by the list that Linux looks at, if the mask is empty
module _ (acl : List EntryValue) (valid : IsValid acl) (empty : has_empty_mask acl ≡ true) (owner group : ℕ) (requester : Identity) (request : ℕ) where
  has_none : perms_of Mask acl ≡ Some 0
  has_none = elim (cases_mask acl) [ inl none ↦ none | inr some ↦ absurd (false≢true (sym some ∙ empty)) ]

  in_mode : grants (linux_list acl) owner group requester request ≡ grants (of_mode (mode_of acl)) owner group requester request
  in_mode = ap (λ (list : List EntryValue). grants list owner group requester request) (by_mode acl has_none)

  pub linux-owner : (requester.uid == owner) ≡ true → grants (linux_list acl) owner group requester request ≡ tag_has UserObj acl request
  linux-owner is_owner = in_mode ∙ by_mode-owner (mode_of acl) owner group requester request is_owner ∙ sym (tag_has-once UserObj acl request valid.user_obj)

  pub linux-group : (requester.uid == owner) ≡ false → is_in_group requester group ≡ true → grants (linux_list acl) owner group requester request ≡ has_all 0 request
  linux-group not_owner inside = in_mode ∙ in_mode-group acl valid has_none owner group requester request not_owner inside

  pub linux-other : (requester.uid == owner) ≡ false → is_in_group requester group ≡ false → grants (linux_list acl) owner group requester request ≡ tag_has Other acl request
  linux-other not_owner outside =
      in_mode ∙ by_mode-other (mode_of acl) owner group requester request not_owner outside ∙ sym (tag_has-once Other acl request valid.other)

pub grants_no_less : GrantsNoLess
grants_no_less acl owner group requester request valid granted = elim (cases_mask acl) [
  | inl empty ↦ rw (by_mode acl empty) (no_less acl valid empty owner group requester request granted)
  | inr some ↦ rw (by_itself acl some) granted
]

pub decides_alike : DecidesAlike
decides_alike acl owner group requester request valid not_both = elim (cases_mask acl) [
  | inl empty ↦
      let is : has_empty_mask acl ≡ true = ap (λ o. option_map_or (λ mask. mask == 0) o false) empty in
      let unnamed : is_named_in acl requester ≡ false = sym (ap (λ b. b && is_named_in acl requester) is) ∙ not_both in
      rw (by_mode acl empty) (alike acl valid empty owner group requester request unnamed)
  | inr some ↦ rw (by_itself acl some) refl
]

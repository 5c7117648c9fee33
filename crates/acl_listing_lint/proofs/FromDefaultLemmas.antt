-- What creation with a mode makes of the entries of a default list.
use Rattle.std.proofs.Common.{◌≡◌, ◌∙◌, ℕ, Bool, true, false, ◌&&◌, cond, not, List, [], ◌∷◌, map, Option, Some, None, is_some, option_map, unwrap_or, ap, refl, subst, sym, find, ◌==◌}
use Rattle.std.proofs.lemmas.Bool.{eq-eqb, eqb-true, false≢true, true≢false}
use Rattle.std.specs.Int.Bits.{and_self}
use Rattle.std.proofs.lemmas.Nat.{and_assoc}
use Rattle.acl_names.specs.Bits.{◌∩◌, has_all}
use Rattle.acl_posix.specs.Access.{is_under_mask, perms_under, under_mask}
use Rattle.acl_posix.specs.Entry.{EntryValue, is_named, perms_of, same_tag}
use Rattle.acl_posix.specs.Mode.{Classes, at_creation, limit_to, mode_of, mode_perms, perms_at}
use Rattle.acl_posix.specs.declared.entry.Tag.{Tag}
use Rattle.acl_posix.specs.declared.entry.Tag.TheVariants.{User, GroupObj, Group, Mask}
use Rattle.acl_posix.proofs.TagLemmas.{same_tag-true}
use Rattle.acl_listing_lint.specs.FromDefault.{CreationIsBounded, CreationIsSilent, IsWithin, are_same, created_with, granted}

abbrev is_for : Tag → EntryValue → Bool
is_for tag entry = same_tag entry.tag tag

-- the tag of the entry that has the group's bits of a mode
abbrev class_tag : Bool → Tag
class_tag masked = cond masked Mask GroupObj

-- ---- entries that name somebody keep their permissions

keeps : (masked : Bool) (mode : Classes) (tag : Tag) (perms : ℕ) → is_named tag ≡ true
    → limit_to (class_tag masked) mode (record { tag = tag; perms = perms }) ≡ record { tag = tag; perms = perms }
keeps true mode (User uid) perms named = refl
keeps true mode (Group gid) perms named = refl
keeps true mode _ perms named = absurd (false≢true named)
keeps false mode (User uid) perms named = refl
keeps false mode (Group gid) perms named = refl
keeps false mode _ perms named = absurd (false≢true named)

picked : (grants : EntryValue → ℕ) (b : Bool) (one other : EntryValue) (rest more : Option EntryValue) → (b ≡ true → one ≡ other)
    → option_map grants rest ≡ option_map grants more → option_map grants (cond b (Some one) rest) ≡ option_map grants (cond b (Some other) more)
picked grants true one other rest more same are = ap (λ entry. Some (grants entry)) (same refl)
picked grants false one other rest more same are = are

found_kept : (grants : EntryValue → ℕ) (masked : Bool) (mode : Classes) (tag : Tag) → is_named tag ≡ true → (entries : List EntryValue)
    → option_map grants (find (is_for tag) (map (limit_to (class_tag masked) mode) entries)) ≡ option_map grants (find (is_for tag) entries)
found_kept grants masked mode tag named [] = refl
found_kept grants masked mode tag named (entry ∷ entries) =
    picked grants (same_tag entry.tag tag) (limit_to (class_tag masked) mode entry) entry _ _
    (λ same. keeps masked mode entry.tag entry.perms (ap is_named (same_tag-true entry.tag tag same) ∙ named))
    (found_kept grants masked mode tag named entries)

-- so what they grant goes by the mask alone
granted_by : (masked : Bool) (mode : Classes) (tag : Tag) → is_named tag ≡ true → (default : List EntryValue)
    → granted (map (limit_to (class_tag masked) mode) default) tag
    ≡ option_map (perms_under (perms_of Mask (map (limit_to (class_tag masked) mode) default))) (find (is_for tag) default)
granted_by masked mode tag named default =
    found_kept (perms_under (perms_of Mask (map (limit_to (class_tag masked) mode) default))) masked mode tag named default

-- ---- the mask

-- an entry more
mask_step : (masked : Bool) (mode : Classes) (tag : Tag) (perms : ℕ) (entries : List EntryValue)
    → perms_of Mask (map (limit_to (class_tag masked) mode) entries) ≡ option_map (under_mask (mode_perms (class_tag masked) mode Mask)) (perms_of Mask entries)
    → perms_of Mask (map (limit_to (class_tag masked) mode) (record { tag = tag; perms = perms } ∷ entries))
    ≡ option_map (under_mask (mode_perms (class_tag masked) mode Mask)) (perms_of Mask (record { tag = tag; perms = perms } ∷ entries))
mask_step masked mode Mask perms entries rest = refl
mask_step masked mode _ perms entries rest = rest

mask_limited : (masked : Bool) (mode : Classes) (entries : List EntryValue)
    → perms_of Mask (map (limit_to (class_tag masked) mode) entries) ≡ option_map (under_mask (mode_perms (class_tag masked) mode Mask)) (perms_of Mask entries)
mask_limited masked mode [] = refl
mask_limited masked mode (entry ∷ entries) = mask_step masked mode entry.tag entry.perms entries (mask_limited masked mode entries)

not_no : (b : Bool) → not b ≡ false → b ≡ true
not_no true is = refl
not_no false is = absurd (true≢false is)

-- limited once or twice by the same, it is the same
twice : (mask group : ℕ) → mask ∩ (mask ∩ group) ≡ mask ∩ group
twice mask group = sym (and_assoc group mask mask) ∙ ap (λ (bits : ℕ). bits ∩ group) (and_self mask)

-- the mask of what is created with a mode, and that of what is created with the mode of this
abbrev created_mask : Option ℕ → Classes → Option ℕ
created_mask mask mode = option_map (under_mask (mode_perms (class_tag (is_some mask)) mode Mask)) mask

mask_is : (default : List EntryValue) (mode : Classes) → perms_of Mask (at_creation default mode) ≡ created_mask (perms_of Mask default) mode
mask_is default mode = mask_limited (is_some (perms_of Mask default)) mode default

-- the group's bits of a mode are the mask
group_is : (acl : List EntryValue) (mask : ℕ) → perms_of Mask acl ≡ Some mask → (mode_of acl).group ≡ mask
group_is acl mask there =
    ap (λ (found : Option ℕ). perms_at (cond (is_some found) Mask GroupObj) acl) there ∙ ap (λ (found : Option ℕ). unwrap_or found 0) there

again : (mask : Option ℕ) (mode : Classes) (acl : List EntryValue) → perms_of Mask acl ≡ created_mask mask mode → created_mask mask (mode_of acl) ≡ created_mask mask mode
again None mode acl is = refl
again (Some mask) mode acl is = ap (λ (group : ℕ). Some (mask ∩ group)) (group_is acl (mask ∩ mode.group) is) ∙ ap (λ (bits : ℕ). Some bits) (twice mask mode.group)

-- ---- both grant the same

module _ (default : List EntryValue) (mode : Classes) (tag : Tag) where
  abbrev access : List EntryValue
  access = at_creation default mode

  abbrev masked : Bool
  masked = is_some (perms_of Mask default)

  same_mask : perms_of Mask access ≡ perms_of Mask (created_with default access)
  same_mask =
      mask_is default mode
      ∙ sym (again (perms_of Mask default) mode access (mask_is default mode))
      ∙ sym (mask_is default (mode_of access))

  same_granted : is_named tag ≡ true → granted access tag ≡ granted (created_with default access) tag
  same_granted named =
      granted_by masked mode tag named default
      ∙ ap (λ (mask : Option ℕ). option_map (perms_under mask) (find (is_for tag) default)) same_mask
      ∙ sym (granted_by masked (mode_of access) tag named default)

  itself : (grants : Option ℕ) → are_same grants grants ≡ true
  itself None = refl
  itself (Some perms) = eq-eqb perms perms refl

  silent : (named : Bool) → is_named tag ≡ named
      → (named && not (are_same (granted access tag) (granted (created_with default access) tag))) ≡ false
  silent false is = refl
  silent true is =
      ap (λ (grants : Option ℕ). not (are_same (granted access tag) grants)) (sym (same_granted is))
      ∙ ap not (itself (granted access tag))

pub creation_is_silent : CreationIsSilent
creation_is_silent default mode tag = silent default mode tag (is_named tag) refl

-- ---- no more than the default list grants

within_itself : (perms : ℕ) → has_all perms perms ≡ true
within_itself perms = eq-eqb (perms ∩ perms) perms (and_self perms)

within_masked : (perms mask group : ℕ) → has_all (perms ∩ mask) (perms ∩ (mask ∩ group)) ≡ true
within_masked perms mask group =
    let less : perms ∩ (mask ∩ group) ≡ (perms ∩ mask) ∩ group = sym (and_assoc group perms mask) in
    ap (λ (bits : ℕ). has_all (perms ∩ mask) bits) less
    ∙ eq-eqb ((perms ∩ mask) ∩ ((perms ∩ mask) ∩ group)) ((perms ∩ mask) ∩ group) (twice (perms ∩ mask) group)

within_limit : (mask : Option ℕ) (mode : Classes) (under : Bool) (perms : ℕ)
    → has_all (cond under (under_mask mask perms) perms) (cond under (under_mask (created_mask mask mode) perms) perms) ≡ true
within_limit mask mode false perms = within_itself perms
within_limit None mode true perms = within_itself perms
within_limit (Some mask) mode true perms = within_masked perms mask mode.group

within_found : (mask : Option ℕ) (mode : Classes) (found : Option EntryValue)
    → IsWithin (option_map (perms_under (created_mask mask mode)) found) (option_map (perms_under mask) found)
within_found mask mode None = refl
within_found mask mode (Some entry) = within_limit mask mode (is_under_mask entry.tag) entry.perms

created_within : (default : List EntryValue) (mode : Classes) (tag : Tag) → is_named tag ≡ true → IsWithin (granted (at_creation default mode) tag) (granted default tag)
created_within default mode tag named =
    subst (λ (grants : Option ℕ). IsWithin grants (granted default tag))
    (sym (granted_by (is_some (perms_of Mask default)) mode tag named default
    ∙ ap (λ (mask : Option ℕ). option_map (perms_under mask) (find (is_for tag) default)) (mask_is default mode)))
    (within_found (perms_of Mask default) mode (find (is_for tag) default))

same_is : (one other : Option ℕ) → not (are_same one other) ≡ false → one ≡ other
same_is (Some one) (Some other) same = ap (λ (bits : ℕ). Some bits) (eqb-true one other (not_no (one == other) same))
same_is None None same = refl
same_is _ _ same = absurd (true≢false same)

pub creation_is_bounded : CreationIsBounded
creation_is_bounded default access tag named same =
    let is : granted access tag ≡ granted (created_with default access) tag =
    same_is (granted access tag) (granted (created_with default access) tag)
    (ap (λ (b : Bool). b && not (are_same (granted access tag) (granted (created_with default access) tag))) (sym named) ∙ same) in
    subst (λ (grants : Option ℕ). IsWithin grants (granted default tag)) (sym is) (created_within default (mode_of access) tag named)

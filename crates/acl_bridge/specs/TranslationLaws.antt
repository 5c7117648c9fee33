-- What a translation keeps of a POSIX access control list.
use Rattle.std.specs.Prelude.{◌≡◌, ℕ, ◌^◌, ◌*◌, ◌-◌, ◌≤◌, ◌↔◌, IsTrue, List, length, map}
use Rattle.acl_names.specs.Bits.{has}
use Rattle.acl_names.specs.Requester.{Identity}
use Rattle.acl_posix.specs.Access.{grants, under_mask}
use Rattle.acl_posix.specs.Canonical.{IsAcl}
use Rattle.acl_posix.specs.Entry.{EntryValue, HavePermissions, perms_of}
use Rattle.acl_posix.specs.Mode.{Classes, perms_at}
use Rattle.acl_posix.specs.Perms.{IsPermissions}
use Rattle.acl_posix.specs.Validity.{IsValid}
use Rattle.acl_posix.specs.declared.limits.TheConstants.{MAX_ENTRIES}
use Rattle.acl_posix.specs.declared.entry.Tag.TheVariants.{UserObj, GroupObj, Mask, Other}
use Rattle.acl_nfs4.specs.Ace.{Nfsace4}
use Rattle.acl_nfs4.specs.Evaluation.{Grants, mode_of}
use Rattle.acl_nfs4.specs.Inheritance.{inherited_list}
use Rattle.acl_nfs4.specs.Mask.{mask_of, read_permission, write_permission, execute_permission}
use Rattle.acl_nfs4.specs.Who.{matches}
use Rattle.acl_nfs4.specs.declared.inheritance.Kind.TheVariants.{File, Dir}
use Rattle.acl_bridge.specs.Translation.{translation, default_translation, with_flags}
use Rattle.acl_bridge.specs.Translation.{inheriting_flags}

-- for every owner, group and requester, one grants the permissions exactly if the other does
abbrev pub AgreeOn : List EntryValue → List Nfsace4 → ℕ → Type 0
AgreeOn acl aces perms =
    (owner group : ℕ) (requester : Identity)
    → IsTrue (grants acl owner group requester perms)
    ↔ Grants (matches owner group requester) aces (mask_of perms)

-- they grant the same single permissions
pub record DecideAlike (acl : List EntryValue) (aces : List Nfsace4) : Type 0 where
  pub to_read : AgreeOn acl aces (2 ^ read_permission)
  pub to_write : AgreeOn acl aces (2 ^ write_permission)
  pub to_execute : AgreeOn acl aces (2 ^ execute_permission)

-- for every owner, group and requester the second grants whatever permissions the first does
abbrev pub GrantsAsMuch : List EntryValue → List Nfsace4 → Type 0
GrantsAsMuch acl aces =
    (owner group : ℕ) (requester : Identity) (perms : ℕ)
    → IsTrue (grants acl owner group requester perms)
    → Grants (matches owner group requester) aces (mask_of perms)

-- the permissions of the owner, of the file's group under the mask, and of the others
abbrev pub translated_mode : List EntryValue → Classes
translated_mode acl = record {
  user = perms_at UserObj acl;
  group = under_mask (perms_of Mask acl) (perms_at GroupObj acl);
  other = perms_at Other acl;
}

-- how many entries a translation can have: two for each entry, but none for the mask and one for
-- the others'
abbrev pub most_translated : ℕ
most_translated = 2 * MAX_ENTRIES - 3

-- the laws of a translation
abbrev pub TranslationDecidesAlike : Type 0
TranslationDecidesAlike = (acl : List EntryValue) → IsValid acl → DecideAlike acl (translation acl)

abbrev pub TranslationGrantsAsMuch : Type 0
TranslationGrantsAsMuch = (acl : List EntryValue) → IsValid acl → GrantsAsMuch acl (translation acl)

-- The translation grants a set of permissions exactly if the list grants each of them by itself.
abbrev pub TranslationGrantsEach : Type 0
TranslationGrantsEach =
    (acl : List EntryValue) → IsValid acl → (owner group : ℕ) (requester : Identity) (perms : ℕ)
    → IsPermissions perms
    → Grants (matches owner group requester) (translation acl) (mask_of perms)
    ↔ ((place : ℕ) → IsTrue (has perms place)
    → IsTrue (grants acl owner group requester (2 ^ place)))

abbrev pub TranslationShowsTheClasses : Type 0
TranslationShowsTheClasses =
    (acl : List EntryValue) → IsValid acl → HavePermissions acl
    → mode_of (translation acl) ≡ translated_mode acl

abbrev pub TranslationIsShort : Type 0
TranslationIsShort = (acl : List EntryValue) → IsAcl acl
    → length (translation acl) ≤ most_translated

-- what is inherited from the translation of a default list
abbrev pub FileInheritsTheTranslation : Type 0
FileInheritsTheTranslation = (acl : List EntryValue)
    → inherited_list File (default_translation acl) ≡ translation acl

abbrev pub DirectoryHandsItOn : Type 0
DirectoryHandsItOn =
    (acl : List EntryValue) → inherited_list Dir (default_translation acl)
    ≡ map (with_flags inheriting_flags) (translation acl)

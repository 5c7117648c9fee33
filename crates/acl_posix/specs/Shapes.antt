-- The shapes of entries of POSIX ACLs, row by row.
use Rattle.std.specs.Prelude.{◌≡◌, ◌⊎◌, ℕ, true, List, [], Option, Some, None, codes}
use Rattle.acl_names.specs.Directory.{Known, uid_of, gid_of}
use Rattle.acl_names.specs.Ids.{decimal_value, has_name_shape}
use Rattle.acl_posix.specs.PermsText.{perms_of_text}
use Rattle.acl_posix.specs.EntryText.{Fields, fields_of}
use Rattle.acl_posix.specs.Entry.{EntryValue}
use Rattle.acl_posix.specs.declared.entry.Tag.{Tag}
use Rattle.acl_posix.specs.declared.entry.Tag.TheVariants.{UserObj, User, GroupObj, Group, Mask}
use Rattle.acl_posix.specs.declared.entry.Tag.TheVariants.{Other}

-- the word, or its first letter
abbrev pub IsWord : List ℕ → List ℕ → List ℕ → Type 0
IsWord word letter text = (text ≡ word) ⊎ (text ≡ letter)

-- a decimal of this id, or the name of the user or group that has it
abbrev pub WritesId : (List ℕ → Option ℕ) → List ℕ → ℕ → Type 0
WritesId id_of text id = (decimal_value text ≡ Some id)
    ⊎ ((has_name_shape text ≡ true) × (id_of text ≡ Some id))

-- no qualifier: it is empty, or left out
abbrev pub IsAbsent : Option (List ℕ) → Type 0
IsAbsent qualifier = (qualifier ≡ None) ⊎ (qualifier ≡ Some [])

-- the tag word and the qualifier that each tag has
abbrev pub IsTagged : Known → List ℕ → Option (List ℕ) → Tag → Type 0
IsTagged known word qualifier UserObj = IsWord (codes "user") (codes "u") word
    × (qualifier ≡ Some [])
IsTagged known word qualifier (User uid) = IsWord (codes "user") (codes "u") word
    × ((text : List ℕ) × (qualifier ≡ Some text) × WritesId (uid_of known) text uid)
IsTagged known word qualifier GroupObj = IsWord (codes "group") (codes "g") word
    × (qualifier ≡ Some [])
IsTagged known word qualifier (Group gid) = IsWord (codes "group") (codes "g") word
    × ((text : List ℕ) × (qualifier ≡ Some text) × WritesId (gid_of known) text gid)
IsTagged known word qualifier Mask = IsWord (codes "mask") (codes "m") word × IsAbsent qualifier
IsTagged known word qualifier Other = IsWord (codes "other") (codes "o") word × IsAbsent qualifier

-- the piece has one of the shapes, and this entry is its value
pub record HasShape (known : Known) (piece : List ℕ) (entry : EntryValue) : Type 0 where
  pub fields : Fields
  pub cut : fields_of piece ≡ Some fields
  pub tagged : IsTagged known fields.tag fields.qualifier entry.tag
  pub allowed : perms_of_text fields.perms ≡ Some entry.perms

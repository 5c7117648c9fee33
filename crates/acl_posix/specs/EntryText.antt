-- How entries of POSIX ACLs are written: the long text form of 1003.1e draft 17, section 23.
use Rattle.std.specs.Prelude.{ℕ, List, [], ◌∷◌, Bool, ◌||◌, Option, Some, None, Result, Ok, Err}
use Rattle.std.specs.Prelude.{codes, if◌then◌else◌}
use Rattle.std.specs.Str.{bytes_eq}
use Rattle.acl_names.specs.Bytes.{colon}
use Rattle.acl_names.specs.Directory.{Known}
use Rattle.acl_names.specs.Ids.{Written, id_of_written}
use Rattle.acl_names.specs.Names.{Names, names_of}
use Rattle.acl_names.specs.Pieces.{trimmed_parts}
use Rattle.acl_names.specs.Steps.{◌>>=◌, or_fault}
use Rattle.acl_posix.specs.PermsText.{perms_of_text}
use Rattle.acl_posix.specs.Entry.{EntryValue}
use Rattle.acl_posix.specs.declared.entry.Tag.{Tag}
use Rattle.acl_posix.specs.declared.entry.Tag.TheVariants.{UserObj, User, GroupObj, Group, Mask}
use Rattle.acl_posix.specs.declared.entry.Tag.TheVariants.{Other}
use Rattle.acl_posix.specs.declared.reading.PieceFault.{PieceFault}
use Rattle.acl_posix.specs.declared.reading.PieceFault.TheVariants.{Syntax, UnknownName}
use Rattle.acl_posix.specs.declared.reading.TagWord.{TagWord}
use Rattle.acl_posix.specs.declared.reading.TagWord.TheVariants as word

-- the fields of an entry, of which the qualifier may be left out
pub record Fields : Type 0 where
  pub tag : List ℕ
  pub qualifier : Option (List ℕ)
  pub perms : List ℕ

abbrev pub as_fields : List (List ℕ) → Option Fields
as_fields (tag ∷ perms ∷ []) = Some (record { tag = tag; qualifier = None; perms = perms })
as_fields (tag ∷ qualifier ∷ perms ∷ []) = Some
    (record { tag = tag; qualifier = Some qualifier; perms = perms })
as_fields _ = None

-- fields are separated by ':', each trimmed
abbrev pub fields_of : List ℕ → Option Fields
fields_of piece = as_fields (trimmed_parts colon piece)

-- the text is this word, or its first letter
abbrev pub is_word : List ℕ → List ℕ → List ℕ → Bool
is_word word letter text = bytes_eq text word || bytes_eq text letter

abbrev pub tag_word : List ℕ → Option TagWord
tag_word text =
    if is_word (codes "user") (codes "u") text then Some word.User
    else (if is_word (codes "group") (codes "g") text then Some word.Group
    else (if is_word (codes "mask") (codes "m") text then Some word.Mask
    else (if is_word (codes "other") (codes "o") text then Some word.Other else None)))

-- the tag for the id that is written, by the look-up of names
abbrev pub tag_with_id : (List ℕ → Option Written) → (ℕ → Tag) → (List ℕ → Option ℕ) → List ℕ
    → Result Tag PieceFault
tag_with_id written_in tag id_of text = do
  written ← or_fault Syntax (written_in text)
  id ← or_fault UnknownName (id_of_written id_of written)
  Ok (tag id)

-- the tag that a word and a qualifier mean
abbrev pub tag_by : Names → TagWord → Option (List ℕ) → Result Tag PieceFault
tag_by names word.User None = Err Syntax
tag_by names word.User (Some []) = Ok UserObj
tag_by names word.User (Some (byte ∷ bytes)) =
    tag_with_id names.written (λ uid. User uid) names.uid (byte ∷ bytes)
tag_by names word.Group None = Err Syntax
tag_by names word.Group (Some []) = Ok GroupObj
tag_by names word.Group (Some (byte ∷ bytes)) =
    tag_with_id names.written (λ gid. Group gid) names.gid (byte ∷ bytes)
tag_by names word.Mask None = Ok Mask
tag_by names word.Mask (Some []) = Ok Mask
tag_by names word.Mask (Some (byte ∷ bytes)) = Err Syntax
tag_by names word.Other None = Ok Other
tag_by names word.Other (Some []) = Ok Other
tag_by names word.Other (Some (byte ∷ bytes)) = Err Syntax

-- by the names of a directory
abbrev pub tag_of : Known → TagWord → Option (List ℕ) → Result Tag PieceFault
tag_of known = tag_by (names_of known)

-- the entry that a piece of a text means, or its fault
unfoldable pub entry_by : Names → List ℕ → Result EntryValue PieceFault
entry_by names piece = do
  fields ← or_fault Syntax (fields_of piece)
  word ← or_fault Syntax (tag_word fields.tag)
  perms ← or_fault Syntax (perms_of_text fields.perms)
  tag ← tag_by names word fields.qualifier
  Ok (record { tag = tag; perms = perms })

-- by the names of a directory
abbrev pub entry_of : Known → List ℕ → Result EntryValue PieceFault
entry_of known = entry_by (names_of known)

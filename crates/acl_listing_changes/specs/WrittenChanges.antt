-- What differs between two blocks of one path, as they are read.
use Rattle.std.specs.Prelude.{◌≡◌, ◌≢◌, ◌↔◌, ◌||◌, ◌&&◌, Bool, true, false, IsTrue, ℕ, List, []}
use Rattle.std.specs.Prelude.{◌∷◌, ◌++◌, Option, None, codes, if◌then◌else◌}
use Rattle.acl_names.specs.Bytes.{comma}
use Rattle.acl_access.specs.Paths.{printed_path}
use Rattle.acl_posix.specs.Entry.{EntryValue}
use Rattle.acl_bridge.specs.declared.any_acl.AnyAcl.{AnyAcl}
use Rattle.acl_bridge.specs.declared.any_acl.AnyAcl.TheVariants.{Posix, Nfs4}
use Rattle.acl_listings.specs.Block.{FileValue}
use Rattle.acl_listings.specs.declared.lists.Lists.{Lists}
use Rattle.acl_listings.specs.declared.lists.Lists.TheVariants as lists
use Rattle.acl_listing_changes.specs.declared.impact.changed.Changed.{Changed}

-- the access list, and the default list if there is one
abbrev pub access_in : Lists → AnyAcl
access_in (lists.Posix access default) = Posix access
access_in (lists.Nfs4 acl) = Nfs4 acl

abbrev pub default_in : Lists → Option (List EntryValue)
default_in (lists.Posix access default) = default
default_in (lists.Nfs4 acl) = None

-- what of it differs
pub record IsChanged (before after : FileValue) (changed : Changed) : Type 0 where
  pub owner : IsTrue changed.owner ↔ (before.owner ≢ after.owner)
  pub group : IsTrue changed.group ↔ (before.group ≢ after.group)
  pub flags : IsTrue changed.flags ↔ (before.flags ≢ after.flags)
  pub access : IsTrue changed.access ↔ (access_in before.lists ≢ access_in after.lists)
  pub default : IsTrue changed.default ↔ (default_in before.lists ≢ default_in after.lists)

abbrev pub is_changed : Changed → Bool
is_changed changed =
    changed.owner || changed.group || changed.flags || changed.access || changed.default

-- a word, behind a comma (44) if there is one before it
abbrev pub word_if : Bool → Bool → List ℕ → List ℕ
word_if false before word = []
word_if true false word = word
word_if true true word = comma ∷ word

abbrev pub changed_words : Changed → List ℕ
changed_words changed = word_if changed.owner false (codes "owner")
    ++ word_if changed.group changed.owner (codes "group")
    ++ word_if changed.flags (changed.owner || changed.group) (codes "flags")
    ++ word_if changed.access (changed.owner || changed.group || changed.flags) (codes "access")
    ++ word_if changed.default
    (changed.owner || changed.group || changed.flags || changed.access) (codes "default")

-- `changed WHAT PATH`, if anything differs and the words ask for the line
abbrev pub changed_text : Bool → Changed → List ℕ → List ℕ
changed_text asked changed path = if asked && is_changed changed
    then codes "changed " ++ changed_words changed ++ codes " " ++ path ++ codes "\n" else []

-- the text is that line
abbrev pub ReportsWritten : Bool → FileValue → FileValue → List ℕ → Type 0
ReportsWritten asked before after text = (changed : Changed) × IsChanged before after changed
    × (text ≡ changed_text asked changed (printed_path after.path))

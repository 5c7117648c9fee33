-- Entries without which everybody is granted the same.
use Rattle.std.specs.Prelude.{◌≡◌, ◌⊎◌, Bool, not, ℕ, List, [], filter, Option, Some, None, codes}
use Rattle.acl_access.specs.Changes.{IsAlikeToAll}
use Rattle.acl_bridge.specs.Files.{File, file_with}
use Rattle.acl_bridge.specs.declared.any_acl.AnyAcl.TheVariants.{Posix}
use Rattle.acl_nfs4.specs.declared.owners.Owners.{Owners}
use Rattle.acl_posix.specs.Entry.{EntryValue, same_tag}
use Rattle.acl_posix.specs.InOrder.{in_order}
use Rattle.acl_posix.specs.Linux.{linux_list}
use Rattle.acl_posix.specs.Validity.{fault_of}
use Rattle.acl_posix.specs.declared.acl.Invalid.{Invalid}
use Rattle.acl_posix.specs.declared.entry.Tag.{Tag}
use Rattle.acl_listing_lint.specs.Found.{Spot, entry_at, found_line}

-- the entries but for the one with this tag
abbrev pub is_other : Tag → EntryValue → Bool
is_other tag entry = not (same_tag entry.tag tag)

abbrev pub but_entry : Tag → List EntryValue → List EntryValue
but_entry tag acl = filter (is_other tag) acl

-- the list of them, if they are one: without the entry of the owner, the file's group or the
-- others, or without a mask where somebody is named, they aren't
abbrev pub list_if : Option Invalid → List EntryValue → Option (List EntryValue)
list_if None entries = Some (in_order entries)
list_if (Some fault) entries = None

abbrev pub list_without : Tag → List EntryValue → Option (List EntryValue)
list_without tag acl = list_if (fault_of (but_entry tag acl)) (but_entry tag acl)

-- a file of these owners with this list, of which Linux looks at another if the mask is empty
abbrev pub file_by : Owners → List EntryValue → File
file_by owners acl = file_with owners (Posix (linux_list acl))

-- both lists grant every requester the same, of whatever uid and groups
abbrev pub DecideAlike : Owners → List EntryValue → List EntryValue → Type 0
DecideAlike owners acl other = IsAlikeToAll (file_by owners acl) (file_by owners other)

abbrev pub no_effect_line : Spot → List ℕ
no_effect_line spot = found_line spot.name spot.line (codes "no-effect") (entry_at spot)

-- of two things one is so: the one, and the text is the line; or it isn't, and there is none
abbrev pub SaysExactly : Type 0 → List ℕ → List ℕ → Type 0
SaysExactly Is line text = (Is × (text ≡ line)) ⊎ ((Is → ⊥) × (text ≡ []))

-- the line is reported exactly if there is such a list without the entry, and it decides alike
abbrev pub IsEffectSaidBy : Owners → List EntryValue → Spot → Option (List EntryValue) → List ℕ
    → Type 0
IsEffectSaidBy owners acl spot None text = text ≡ []
IsEffectSaidBy owners acl spot (Some other) text =
    SaysExactly (DecideAlike owners acl other) (no_effect_line spot) text

abbrev pub IsEffectSaid : Owners → List EntryValue → Spot → EntryValue → List ℕ → Type 0
IsEffectSaid owners acl spot entry text =
    IsEffectSaidBy owners acl spot (list_without entry.tag acl) text

-- Users and groups whom a file grants otherwise than its folder's default list would have.
use Rattle.std.specs.Prelude.{◌≡◌, ◌&&◌, ◌==◌, ℕ, Bool, true, false, not, List, [], ◌++◌, Option}
use Rattle.std.specs.Prelude.{Some, None, IsTrue, codes, decimal, if◌then◌else◌, is_none}
use Rattle.std.specs.Prelude.{option_map}
use Rattle.std.specs.List.{find, flat_map}
use Rattle.acl_names.specs.Bits.{has_all}
use Rattle.acl_listings.specs.declared.lists.Lists.{Lists}
use Rattle.acl_listings.specs.declared.lists.Lists.TheVariants.{Posix, Nfs4}
use Rattle.acl_posix.specs.Access.{effective_perms}
use Rattle.acl_posix.specs.Entry.{EntryValue, is_named, same_tag}
use Rattle.acl_posix.specs.Mode.{Classes, at_creation, mode_of}
use Rattle.acl_posix.specs.PermsText.{perms_text}
use Rattle.acl_posix.specs.declared.entry.Tag.{Tag}
use Rattle.acl_posix.specs.declared.entry.Tag.TheVariants.{User, Group}
use Rattle.acl_listing_lint.specs.Found.{Spot, entry_at, found_line}

-- the list that a file would have got at its creation, with the mode that its own list has
abbrev pub created_with : List EntryValue → List EntryValue → List EntryValue
created_with default access = at_creation default (mode_of access)

-- of a file with these lists, if they are POSIX ones
abbrev pub created_by : List EntryValue → Lists → Option (List EntryValue)
created_by default (Posix access own) = Some (created_with default access)
created_by default (Nfs4 acl) = None

-- in a folder with this default list, if it has one
abbrev pub created_in : Option (List EntryValue) → Lists → Option (List EntryValue)
created_in (Some default) lists = created_by default lists
created_in None lists = None

-- ---- who is granted otherwise

-- what a list grants by the entry with the tag, if it has one
abbrev pub granted : List EntryValue → Tag → Option ℕ
granted acl tag =
    option_map (effective_perms acl) (find (λ entry. same_tag entry.tag tag) acl)

abbrev pub are_same : Option ℕ → Option ℕ → Bool
are_same (Some one) (Some other) = one == other
are_same (Some one) None = false
are_same None other = is_none other

-- the tag names a user or a group, to whom one list grants otherwise than the other, or whom only
-- one of them names
abbrev pub differs : List EntryValue → List EntryValue → Tag → Bool
differs created access tag =
    is_named tag && not (are_same (granted access tag) (granted created tag))

-- an entry names somebody whom the list doesn't
abbrev pub lacks : List EntryValue → Tag → Bool
lacks access tag = is_named tag && is_none (granted access tag)

-- ---- what is reported

abbrev pub differs_word : List ℕ
differs_word = codes "differs-from-default"

-- what would have been granted, if somebody would have been named
abbrev pub granted_text : Option ℕ → List ℕ
granted_text (Some perms) = perms_text perms
granted_text None = codes "none"

abbrev pub would_text : Spot → Option ℕ → List ℕ
would_text spot would = entry_at spot ++ codes " " ++ granted_text would

-- `differs-from-default ENTRY PERMISSIONS`, if it does
abbrev pub line_if_differs : Bool → Spot → Option ℕ → List ℕ
line_if_differs differs spot would =
    if differs then found_line spot.name spot.line differs_word (would_text spot would) else []

-- of an entry of the file
abbrev pub differs_text : List EntryValue → List EntryValue → Spot → EntryValue → List ℕ
differs_text created access spot entry = line_if_differs (differs created access entry.tag) spot
    (granted created entry.tag)

abbrev pub differs_text_if : Option (List EntryValue) → List EntryValue → Spot → EntryValue
    → List ℕ
differs_text_if (Some created) access spot entry = differs_text created access spot entry
differs_text_if None access spot entry = []

-- whom an entry names, with the id
abbrev pub named_text : Tag → List ℕ
named_text (User uid) = codes "user:" ++ decimal uid
named_text (Group gid) = codes "group:" ++ decimal gid
named_text _ = []

-- an entry of the default list
abbrev pub default_text : EntryValue → List ℕ
default_text entry =
    codes "default:" ++ named_text entry.tag ++ codes ":" ++ perms_text entry.perms

-- `differs-from-default default:ENTRY`, if the file lacks it
abbrev pub line_if_lacking : Bool → List ℕ → ℕ → EntryValue → List ℕ
line_if_lacking lacks name line entry =
    if lacks then found_line name line differs_word (default_text entry) else []

abbrev pub lacks_text : List ℕ → ℕ → List EntryValue → EntryValue → List ℕ
lacks_text name line access entry = line_if_lacking (lacks access entry.tag) name line entry

-- of all its entries, of a file whose block's first line has this number
abbrev pub lacking_text : List ℕ → ℕ → Option (List EntryValue) → Lists → List ℕ
lacking_text name line (Some created) (Posix access own) =
    flat_map (lacks_text name line access) created
lacking_text name line (Some created) (Nfs4 acl) = []
lacking_text name line None lists = []

-- ---- that this is silent about what creation makes, and about no more

-- nobody is granted otherwise by the list that a file gets at its creation, whatever the mode
abbrev pub CreationIsSilent : Type 0
CreationIsSilent = (default : List EntryValue) (mode : Classes) (tag : Tag)
    → differs (created_with default (at_creation default mode)) (at_creation default mode) tag
    ≡ false

-- what the one grants is within what the other does, and both name them or neither
abbrev pub IsWithin : Option ℕ → Option ℕ → Type 0
IsWithin (Some few) (Some all) = IsTrue (has_all all few)
IsWithin few all = are_same few all ≡ true

-- whoever isn't granted otherwise is granted no more than by the default list itself, which the
-- mode 777 leaves as it is
abbrev pub CreationIsBounded : Type 0
CreationIsBounded = (default access : List EntryValue) (tag : Tag) → IsTrue (is_named tag)
    → differs (created_with default access) access tag ≡ false
    → IsWithin (granted access tag) (granted default tag)

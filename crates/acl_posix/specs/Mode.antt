-- Modes, and those of access control lists (1003.1e draft 17, section 23).
use Rattle.std.specs.Prelude.{ℕ, ◌+◌, ◌*◌, ◌/◌, ◌%◌, Option, Some, None, List, [], ◌∷◌, map}
use Rattle.std.specs.Prelude.{is_some, unwrap_or, if◌then◌else◌}
use Rattle.std.specs.List.{filter, fold}
use Rattle.acl_posix.specs.declared.entry.Tag.{Tag}
use Rattle.acl_posix.specs.declared.entry.Tag.TheVariants.{UserObj, GroupObj, Mask, Other}
use Rattle.acl_posix.specs.Entry.{EntryValue, same_tag, perms_of}
use Rattle.acl_names.specs.Bits.{◌∪◌}
use Rattle.acl_posix.specs.Perms.{IsPermissions}
use Rattle.acl_posix.specs.Access.{is_under_mask, under_mask}

-- the permissions of the owner, the file's group and the others
pub record Classes : Type 0 where
  pub user : ℕ
  pub group : ℕ
  pub other : ℕ

-- none of them has more than permissions to read, write and execute
pub record AreClasses (mode : Classes) : Type 0 where
  pub user_is : IsPermissions mode.user
  pub group_is : IsPermissions mode.group
  pub other_is : IsPermissions mode.other

-- the number of a mode has an octal digit for each class
abbrev pub number_of : Classes → ℕ
number_of mode = 64 * mode.user + 8 * mode.group + mode.other

-- the mode of a number
abbrev pub classes_of : ℕ → Classes
classes_of number = record { user = number / 64; group = number / 8 % 8; other = number % 8 }

-- the permissions of the entry with the tag; empty if there is no such entry
abbrev pub perms_at : Tag → List EntryValue → ℕ
perms_at tag acl = unwrap_or (perms_of tag acl) 0

-- the tag of the entry with the group's bits of a mode: the mask if there is one, else that of the
-- file's group
abbrev pub group_class_tag : List EntryValue → Tag
group_class_tag acl = if is_some (perms_of Mask acl) then Mask else GroupObj

-- the mode of an access control list
abbrev pub mode_of : List EntryValue → Classes
mode_of acl = record {
  user = perms_at UserObj acl;
  group = perms_at (group_class_tag acl) acl;
  other = perms_at Other acl;
}

-- the permissions that a mode has for the entry with the tag, if it has any
abbrev pub mode_perms : Tag → Classes → Tag → Option ℕ
mode_perms group_class mode UserObj = Some mode.user
mode_perms group_class mode Other = Some mode.other
mode_perms group_class mode tag = if same_tag tag group_class then Some mode.group else None

-- an entry with the mode's permissions for it, and one with no more than these
abbrev pub set_to : Tag → Classes → EntryValue → EntryValue
set_to group_class mode entry = record {
  tag = entry.tag;
  perms = unwrap_or (mode_perms group_class mode entry.tag) entry.perms;
}

abbrev pub limit_to : Tag → Classes → EntryValue → EntryValue
limit_to group_class mode entry = record {
  tag = entry.tag;
  perms = under_mask (mode_perms group_class mode entry.tag) entry.perms;
}

-- an access control list whose mode is changed
abbrev pub chmod : List EntryValue → Classes → List EntryValue
chmod acl mode = map (set_to (group_class_tag acl) mode) acl

-- the access control list of a new file under a default one
abbrev pub at_creation : List EntryValue → Classes → List EntryValue
at_creation default mode = map (limit_to (group_class_tag default) mode) default

-- the access control list of three entries with a mode
abbrev pub of_mode : Classes → List EntryValue
of_mode mode =
    record { tag = UserObj; perms = mode.user }
    ∷ record { tag = GroupObj; perms = mode.group }
    ∷ record { tag = Other; perms = mode.other }
    ∷ []

-- the union of the permissions that a mask would limit
abbrev pub calc_mask : List EntryValue → ℕ
calc_mask acl = fold (λ all entry. all ∪ entry.perms) 0
    (filter (λ entry. is_under_mask entry.tag) acl)

-- The access check (1003.1e draft 17, section 23). A list is the set of its entries: no answer
-- depends on their order.
use Rattle.std.specs.Prelude.{ℕ, Bool, true, false, ◌==◌, Option, Some, None, List, [], ◌∷◌}
use Rattle.std.specs.Prelude.{if◌then◌else◌}
use Rattle.std.specs.List.{filter, list_any}
use Rattle.acl_names.specs.Requester.{Identity, is_in_group}
use Rattle.acl_posix.specs.declared.entry.Tag.{Tag}
use Rattle.acl_posix.specs.declared.entry.Tag.TheVariants.{UserObj, User, GroupObj, Group, Mask}
use Rattle.acl_posix.specs.declared.entry.Tag.TheVariants.{Other}
use Rattle.acl_posix.specs.Entry.{EntryValue, entries_of, perms_of}
use Rattle.acl_names.specs.Bits.{◌∩◌, has_all}

-- whether the tag is that of a group which the requester is in: the file's group, or one by id
abbrev pub is_for_group_of : Identity → ℕ → Tag → Bool
is_for_group_of requester group GroupObj = is_in_group requester group
is_for_group_of requester group (Group gid) = is_in_group requester gid
is_for_group_of requester group _ = false

-- the first list that isn't empty
abbrev pub first_nonempty : List (List EntryValue) → List EntryValue
first_nonempty [] = []
first_nonempty ([] ∷ rest) = first_nonempty rest
first_nonempty ((entry ∷ entries) ∷ rest) = entry ∷ entries

-- The entries that decide are the owner's, if the requester is the owner; else the requester's own;
-- else those for the requester's groups; else the others'. The first of these that exist decide
-- alone.
abbrev pub deciding_set : List EntryValue → ℕ → ℕ → Identity → List EntryValue
deciding_set acl owner group requester =
    first_nonempty (
    (if requester.uid == owner then entries_of UserObj acl else [])
    ∷ entries_of (User requester.uid) acl
    ∷ filter (λ entry. is_for_group_of requester group entry.tag) acl
    ∷ entries_of Other acl
    ∷ []
    )

-- whether the mask limits an entry with the tag
abbrev pub is_under_mask : Tag → Bool
is_under_mask (User _) = true
is_under_mask GroupObj = true
is_under_mask (Group _) = true
is_under_mask _ = false

-- the permissions that a mask, if there is one, leaves
abbrev pub under_mask : Option ℕ → ℕ → ℕ
under_mask None perms = perms
under_mask (Some mask) perms = perms ∩ mask

-- the permissions of an entry that this mask, if there is one, leaves
abbrev pub perms_under : Option ℕ → EntryValue → ℕ
perms_under mask entry =
    if is_under_mask entry.tag then under_mask mask entry.perms else entry.perms

-- the effective permissions of an entry of a list: its own that the list's mask leaves
abbrev pub effective_perms : List EntryValue → EntryValue → ℕ
effective_perms acl = perms_under (perms_of Mask acl)

-- A request is granted if one of the entries that decide has the whole of it in its effective
-- permissions.
abbrev pub grants : List EntryValue → ℕ → ℕ → Identity → ℕ → Bool
grants acl owner group requester request =
    list_any (λ entry. has_all (effective_perms acl entry) request)
    (deciding_set acl owner group requester)

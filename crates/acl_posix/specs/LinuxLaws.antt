-- What Linux decides, compared with the draft.
use Rattle.std.specs.Prelude.{ℕ, Bool, false, ◌≡◌, ◌==◌, ◌&&◌, List, IsTrue}
use Rattle.std.specs.List.{list_any}
use Rattle.acl_names.specs.Requester.{Identity, is_in_group}
use Rattle.acl_posix.specs.Access.{grants}
use Rattle.acl_posix.specs.Entry.{EntryValue}
use Rattle.acl_posix.specs.Linux.{has_empty_mask, linux_list}
use Rattle.acl_posix.specs.Validity.{IsValid}
use Rattle.acl_posix.specs.declared.entry.Tag.{Tag}
use Rattle.acl_posix.specs.declared.entry.Tag.TheVariants.{User, Group}

-- whether the entry names the requester, by the uid or by a group that the requester is in
abbrev pub is_named_by : Identity → Tag → Bool
is_named_by requester (User uid) = uid == requester.uid
is_named_by requester (Group gid) = is_in_group requester gid
is_named_by requester _ = false

-- whether any entry of the list does
abbrev pub is_named_in : List EntryValue → Identity → Bool
is_named_in acl requester = list_any (λ entry. is_named_by requester entry.tag) acl

-- Linux grants whatever the draft grants.
abbrev pub GrantsNoLess : Type 0
GrantsNoLess = (acl : List EntryValue) (owner group : ℕ) (requester : Identity) (request : ℕ)
    → IsValid acl → IsTrue (grants acl owner group requester request)
    → IsTrue (grants (linux_list acl) owner group requester request)

-- Both decide the same, except for requesters whom a list with an empty mask names.
abbrev pub DecidesAlike : Type 0
DecidesAlike = (acl : List EntryValue) (owner group : ℕ) (requester : Identity) (request : ℕ)
    → IsValid acl → (has_empty_mask acl && is_named_in acl requester) ≡ false
    → grants (linux_list acl) owner group requester request
    ≡ grants acl owner group requester request

-- Private steps, which no public clause cites: the answer of each step of the access check, if it
-- applies.
use Rattle.std.specs.Prelude.{ℕ, Bool, true, ◌&&◌, List, Option, Some, None, if◌then◌else◌}
use Rattle.std.specs.List.{list_any}
use Rattle.std.specs.Option.{option_map_or}
use Rattle.acl_names.specs.Bits.{has_all}
use Rattle.acl_names.specs.Requester.{Identity}
use Rattle.acl_posix.specs.Access.{is_for_group_of}
use Rattle.acl_posix.specs.Entry.{EntryValue, same_tag, perms_of}
use Rattle.acl_posix.specs.declared.entry.Tag.{Tag}
use Rattle.acl_posix.specs.declared.entry.Tag.TheVariants.{User, Mask}

-- whether there is an entry with the tag, and whether one has the whole of the request
abbrev pub has_tag : Tag → List EntryValue → Bool
has_tag tag acl = list_any (λ entry. same_tag entry.tag tag) acl

abbrev pub tag_has : Tag → List EntryValue → ℕ → Bool
tag_has tag acl request = list_any (λ entry. same_tag entry.tag tag && has_all entry.perms request)
    acl

-- the same for the entries for the requester's groups
abbrev pub has_group : Identity → ℕ → List EntryValue → Bool
has_group requester group acl = list_any (λ entry. is_for_group_of requester group entry.tag) acl

abbrev pub group_has : Identity → ℕ → List EntryValue → ℕ → Bool
group_has requester group acl request = list_any
    (λ entry. is_for_group_of requester group entry.tag && has_all entry.perms request) acl

-- whether the mask, if there is one, has the whole of the request
abbrev pub mask_allows : List EntryValue → ℕ → Bool
mask_allows acl request = option_map_or (λ mask. has_all mask request) (perms_of Mask acl) true

-- the answer of the entry with a tag, if there is one
abbrev pub tag_answer : Tag → List EntryValue → ℕ → Option Bool
tag_answer tag acl request = if has_tag tag acl then Some (tag_has tag acl request) else None

-- the answer of the user's own entry under the mask, if there is one
abbrev pub user_answer : List EntryValue → ℕ → ℕ → Option Bool
user_answer acl uid request = if has_tag (User uid) acl
    then Some (tag_has (User uid) acl request && mask_allows acl request) else None

-- the answer of the entries for the requester's groups together, if there are any, before the mask
abbrev pub groups_answer : List EntryValue → ℕ → Identity → ℕ → Option Bool
groups_answer acl group requester request = if has_group requester group acl
    then Some (group_has requester group acl request) else None

-- and under the mask
abbrev pub group_answer : List EntryValue → ℕ → Identity → ℕ → Option Bool
group_answer acl group requester request =
    if has_group requester group acl then Some
    (group_has requester group acl request && mask_allows acl request) else None

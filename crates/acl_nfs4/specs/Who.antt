-- Whom an entry is for (RFC 8881, section 6.2.1.5).
use Rattle.std.specs.Prelude.{ℕ, ◌^◌, ◌≤◌, Bool, true, false, ◌==◌}
use Rattle.acl_names.specs.declared.limits.TheConstants.{MAX_ID}
use Rattle.acl_names.specs.Requester.{Identity, is_in_group}
use Rattle.acl_posix.specs.declared.entry.Tag.{Tag}
use Rattle.acl_posix.specs.declared.entry.Tag.TheVariants as tags
use Rattle.acl_nfs4.specs.Flags.{identifier_group}
use Rattle.acl_nfs4.specs.declared.who.Who.{Who}
use Rattle.acl_nfs4.specs.declared.who.Who.TheVariants.{Owner, Group, Everyone, User, NamedGroup}

-- whether it is one of OWNER@, GROUP@ and EVERYONE@
abbrev pub is_special : Who → Bool
is_special (User _) = false
is_special (NamedGroup _) = false
is_special _ = true

abbrev pub is_named_group : Who → Bool
is_named_group (NamedGroup _) = true
is_named_group _ = false

abbrev pub same_who : Who → Who → Bool
same_who Owner Owner = true
same_who Group Group = true
same_who Everyone Everyone = true
same_who (User uid) (User other) = uid == other
same_who (NamedGroup gid) (NamedGroup other) = gid == other
same_who _ _ = false

-- whether an entry for the who applies to the requester, for a file with this owner and group
abbrev pub matches : ℕ → ℕ → Identity → Who → Bool
matches owner group requester Owner = requester.uid == owner
matches owner group requester Group = is_in_group requester group
matches owner group requester Everyone = true
matches owner group requester (User named) = requester.uid == named
matches owner group requester (NamedGroup named) = is_in_group requester named

-- whom a POSIX entry with this tag is for; a mask has no NFSv4 entry
abbrev pub who_of : Tag → Who
who_of tags.UserObj = Owner
who_of (tags.User uid) = User uid
who_of tags.GroupObj = Group
who_of (tags.Group gid) = NamedGroup gid
who_of _ = Everyone

-- the flags that an entry for this who requires
abbrev pub flags_of_who : Who → ℕ
flags_of_who (NamedGroup _) = 2 ^ identifier_group
flags_of_who _ = 0

-- its id; the special identifiers have none
abbrev pub id_of : Who → ℕ
id_of (User uid) = uid
id_of (NamedGroup gid) = gid
id_of _ = 0

-- its id is in the range of ids
abbrev pub HasId : Who → Type 0
HasId who = id_of who ≤ MAX_ID

-- Ids that no account has.
use Rattle.std.specs.Prelude.{ℕ, ◌+◌, Bool, false, List, [], ◌++◌, codes, decimal}
use Rattle.std.specs.Prelude.{if◌then◌else◌}
use Rattle.acl_nfs4.specs.declared.owners.Owners.{Owners}
use Rattle.acl_nfs4.specs.declared.who.Who.{Who}
use Rattle.acl_nfs4.specs.declared.who.Who.TheVariants as who
use Rattle.acl_people.specs.Host.{Host, lacks_group, lacks_user}
use Rattle.acl_posix.specs.declared.entry.Tag.{Tag}
use Rattle.acl_posix.specs.declared.entry.Tag.TheVariants.{User, Group}
use Rattle.acl_listing_lint.specs.Found.{Spot, entry_at, found_line}

-- the user or the group that an entry names
abbrev pub lacks_tag : Host → Tag → Bool
lacks_tag host (User uid) = lacks_user host uid
lacks_tag host (Group gid) = lacks_group host gid
lacks_tag host _ = false

abbrev pub lacks_who : Host → Who → Bool
lacks_who host (who.User uid) = lacks_user host uid
lacks_who host (who.NamedGroup gid) = lacks_group host gid
lacks_who host _ = false

-- a line with this text, if the accounts lack it
abbrev pub line_if_lacking : Bool → List ℕ → ℕ → List ℕ → List ℕ
line_if_lacking lacks name line text =
    if lacks then found_line name line (codes "no-account") text else []

-- of an entry that names it
abbrev pub no_account_text : Bool → Spot → List ℕ
no_account_text lacks spot = line_if_lacking lacks spot.name spot.line (entry_at spot)

-- `no-account owner UID` and `no-account group GID`, of the header with these lines
abbrev pub owner_text : Host → List ℕ → ℕ → ℕ → List ℕ
owner_text host name line uid =
    line_if_lacking (lacks_user host uid) name line (codes "owner " ++ decimal uid)

abbrev pub group_text : Host → List ℕ → ℕ → ℕ → List ℕ
group_text host name line gid =
    line_if_lacking (lacks_group host gid) name line (codes "group " ++ decimal gid)

-- of a file of these owners, whose block's first line has this number
abbrev pub owners_text : Host → List ℕ → ℕ → Owners → List ℕ
owners_text host name line owners =
    owner_text host name (line + 1) owners.owner
    ++ group_text host name (line + 2) owners.group

-- A mode that leaves the entries that name users and groups (within RFC 8881, section 6.4.1.1).
use Rattle.std.specs.Prelude.{ℕ, List, [], ◌∷◌, ◌++◌, if◌then◌else◌, flat_map}
use Rattle.acl_nfs4.specs.Ace.{Nfsace4}
use Rattle.acl_nfs4.specs.ModeChange.{for_others, for_owner, kept_of_entry, names_someone}
use Rattle.acl_posix.specs.Mode.{Classes}

-- all three permissions
abbrev pub all_perms : ℕ
all_perms = 7

-- what an entry leaves: one that decides about a named user or group stays as it is, and another
-- leaves what it leaves beside a mode whose group lacks nothing
abbrev pub left_of_entry : Nfsace4 → List Nfsace4
left_of_entry ace = if names_someone ace then ace ∷ [] else kept_of_entry all_perms ace

-- what a list leaves
abbrev pub left_of_list : List Nfsace4 → List Nfsace4
left_of_list aces = flat_map left_of_entry aces

-- the list with the mode set: named users and groups stand between the owner and the others
abbrev pub with_mode_keep : List Nfsace4 → Classes → List Nfsace4
with_mode_keep aces mode =
    for_owner mode.user ++ (left_of_list aces ++ for_others mode.group mode.other)

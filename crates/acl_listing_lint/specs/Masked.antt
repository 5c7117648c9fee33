-- Entries of which the mask takes something.
use Rattle.std.specs.Prelude.{ℕ, ◌==◌, List, [], ◌++◌, codes, if◌then◌else◌}
use Rattle.acl_names.specs.Bits.{without}
use Rattle.acl_posix.specs.Access.{effective_perms}
use Rattle.acl_posix.specs.Entry.{EntryValue}
use Rattle.acl_posix.specs.PermsText.{perms_text}
use Rattle.acl_listing_lint.specs.Found.{Spot, entry_at, found_line}

-- what the mask of a list takes of an entry
abbrev pub taken_of : List EntryValue → EntryValue → ℕ
taken_of acl entry = without entry.perms (effective_perms acl entry)

-- `masked ENTRY PERMISSIONS`, if it takes some
abbrev pub masked_text : Spot → List EntryValue → EntryValue → List ℕ
masked_text spot acl entry = if taken_of acl entry == 0 then []
    else found_line spot.name spot.line (codes "masked")
    (entry_at spot ++ codes " " ++ perms_text (taken_of acl entry))

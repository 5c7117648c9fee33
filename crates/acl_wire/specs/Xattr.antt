-- POSIX lists in the binary form of Linux's extended attributes `system.posix_acl_access` and
-- `system.posix_acl_default` (linux/posix_acl_xattr.h): a version, and eight bytes for each entry.
-- Numbers have their lowest byte first.
use Rattle.std.specs.Prelude.{ℕ, List, ◌++◌}
use Rattle.std.specs.Int.{w16, w32, to_le_bytes}
use Rattle.std.specs.List.{flat_map}
use Rattle.acl_posix.specs.Entry.{EntryValue}
use Rattle.acl_posix.specs.declared.entry.Tag.{Tag}
use Rattle.acl_posix.specs.declared.entry.Tag.TheVariants.{UserObj, User, GroupObj, Group, Mask}
use Rattle.acl_posix.specs.declared.entry.Tag.TheVariants.{Other}

abbrev pub version : ℕ
version = 2

-- the id of an entry that names nobody
abbrev pub undefined_id : ℕ
undefined_id = 0xffffffff

-- the numbers of the tags
abbrev pub tag_number : Tag → ℕ
tag_number UserObj = 0x01
tag_number (User _) = 0x02
tag_number GroupObj = 0x04
tag_number (Group _) = 0x08
tag_number Mask = 0x10
tag_number Other = 0x20

abbrev pub id_number : Tag → ℕ
id_number (User uid) = uid
id_number (Group gid) = gid
id_number UserObj = undefined_id
id_number GroupObj = undefined_id
id_number Mask = undefined_id
id_number Other = undefined_id

-- an entry: tag, permissions, id
abbrev pub entry_bytes : EntryValue → List ℕ
entry_bytes entry = to_le_bytes w16 (tag_number entry.tag) ++ to_le_bytes w16 entry.perms
    ++ to_le_bytes w32 (id_number entry.tag)

-- a list of entries
abbrev pub xattr_of : List EntryValue → List ℕ
xattr_of entries = to_le_bytes w32 version ++ flat_map entry_bytes entries

-- The flags of an entry (RFC 8881, section 6.2.1.4).
use Rattle.std.specs.Prelude.{ℕ, ◌+◌, ◌^◌}
use Rattle.acl_nfs4.specs.declared.flags.Flags.{Flags}

-- the number of a set of flags
abbrev pub flag_bits : Flags → ℕ
flag_bits flags = flags.0

-- the bits that have a name
abbrev pub all_flags : ℕ
all_flags = 0x7F

-- the places of the flags of inheritance
abbrev pub file_inherit : ℕ
file_inherit = 0

abbrev pub directory_inherit : ℕ
directory_inherit = 1

abbrev pub no_propagate_inherit : ℕ
no_propagate_inherit = 2

abbrev pub inherit_only : ℕ
inherit_only = 3

-- the flags of these places
abbrev pub inheritance_flags : ℕ
inheritance_flags = 2 ^ file_inherit + 2 ^ directory_inherit + 2 ^ no_propagate_inherit
    + 2 ^ inherit_only

-- the place of the flag of entries whose who is a group
abbrev pub identifier_group : ℕ
identifier_group = 6

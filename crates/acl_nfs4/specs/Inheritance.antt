-- What a new file or directory inherits (RFC 8881, section 6.4.3).
use Rattle.std.specs.Prelude.{ℕ, ◌+◌, ◌^◌, ◌==◌, Bool, true, false, not, List, Option, Some, None}
use Rattle.std.specs.Prelude.{option_map, filter_map}
use Rattle.std.specs.List.{list_any}
use Rattle.acl_names.specs.Bits.{has, without, ◌∩◌, ◌∪◌}
use Rattle.acl_nfs4.specs.Flags.{file_inherit, directory_inherit, no_propagate_inherit}
use Rattle.acl_nfs4.specs.Flags.{inherit_only, inheritance_flags}
use Rattle.acl_nfs4.specs.Ace.{Nfsace4}
use Rattle.acl_nfs4.specs.declared.inheritance.Kind.{Kind}
use Rattle.acl_nfs4.specs.declared.inheritance.Kind.TheVariants.{File, Dir}

-- the inheritance flags of the entry below, if it is inherited, by whether the parent's entry is
-- for files, is for directories, and isn't passed on
abbrev pub flags_below : Kind → Bool → Bool → Bool → Option ℕ
flags_below File true for_directories stops = Some 0
flags_below File false for_directories stops = None
flags_below Dir false false stops = None
flags_below Dir true false false = Some (2 ^ file_inherit + 2 ^ inherit_only)
flags_below Dir true false true = None
flags_below Dir false true false = Some (2 ^ directory_inherit)
flags_below Dir true true false = Some (2 ^ file_inherit + 2 ^ directory_inherit)
flags_below Dir false true true = Some 0
flags_below Dir true true true = Some 0

-- the entry with these inheritance flags instead of its own
abbrev pub with_inheritance_flags : Nfsace4 → ℕ → Nfsace4
with_inheritance_flags ace flags = record ace
    { flags = without ace.flags inheritance_flags ∪ flags }

-- the entry as a new file or directory inherits it
abbrev pub inherited_entry : Kind → Nfsace4 → Option Nfsace4
inherited_entry kind ace =
    option_map (with_inheritance_flags ace)
    (flags_below kind (has ace.flags file_inherit) (has ace.flags directory_inherit)
    (has ace.flags no_propagate_inherit))

-- the list of a new file or directory
abbrev pub inherited_list : Kind → List Nfsace4 → List Nfsace4
inherited_list kind aces = filter_map (inherited_entry kind) aces

-- whether any entry has a flag of inheritance
abbrev pub has_inheritance : List Nfsace4 → Bool
has_inheritance aces = list_any (λ ace. not (ace.flags ∩ inheritance_flags == 0)) aces

-- A POSIX access control list (1003.1e draft 17, section 23) as an NFSv4 one (RFC 8881, section
-- 6.2).
use Rattle.std.specs.Prelude.{ℕ, Bool, true, false, ◌+◌, ◌^◌, List, [], ◌∷◌, ◌++◌, map, flat_map}
use Rattle.std.specs.Prelude.{filter}
use Rattle.acl_names.specs.Bits.{◌∪◌}
use Rattle.acl_posix.specs.Access.{effective_perms}
use Rattle.acl_posix.specs.Entry.{EntryValue}
use Rattle.acl_posix.specs.declared.entry.Tag.{Tag}
use Rattle.acl_posix.specs.declared.entry.Tag.TheVariants.{UserObj, User, GroupObj, Group, Other}
use Rattle.acl_nfs4.specs.Ace.{Nfsace4, plain_ace}
use Rattle.acl_nfs4.specs.Flags.{file_inherit, directory_inherit, inherit_only}
use Rattle.acl_nfs4.specs.Mask.{mask_of, rest_of}
use Rattle.acl_nfs4.specs.Who.{who_of}
use Rattle.acl_nfs4.specs.declared.ace.AceType.TheVariants.{Allow, Deny}
use Rattle.acl_nfs4.specs.declared.who.Who.{Who}
use Rattle.acl_bridge.specs.declared.passes.Class.{Class}
use Rattle.acl_bridge.specs.declared.passes.Class.TheVariants.{Owner, Users, Groups, Others}
use Rattle.acl_bridge.specs.declared.passes.Part.{Part}
use Rattle.acl_bridge.specs.declared.passes.Part.TheVariants.{Allowed, Denied, Settled}

-- whether an entry with this tag is of the class; a mask is in none
abbrev pub is_in : Class → Tag → Bool
is_in Owner UserObj = true
is_in Users (User _) = true
is_in Groups GroupObj = true
is_in Groups (Group _) = true
is_in Others Other = true
is_in _ _ = false

-- the entries of a class, in their order
abbrev pub in_class : Class → List EntryValue → List EntryValue
in_class class acl = filter (λ entry. is_in class entry.tag) acl

-- the entries for a who with these permissions: what they allow, the rest, which is denied, or the
-- one and then the other
abbrev pub aces_for : Part → Who → ℕ → List Nfsace4
aces_for Allowed who perms = plain_ace Allow who (mask_of perms)
aces_for Denied who perms = plain_ace Deny who (rest_of perms)
aces_for Settled who perms = plain_ace Allow who (mask_of perms)
    ++ plain_ace Deny who (rest_of perms)

-- the entries made for an entry under the mask
abbrev pub aces_of_entry : Part → List EntryValue → EntryValue → List Nfsace4
aces_of_entry part acl entry = aces_for part (who_of entry.tag) (effective_perms acl entry)

-- the entries that a pass over a list makes for those of its class
abbrev pub aces_of_pass : Class × Part → List EntryValue → List Nfsace4
aces_of_pass (class, part) acl = flat_map (aces_of_entry part acl) (in_class class acl)

-- The owner and each user are settled one by one. Entries for groups work together: none denies
-- before all of them have allowed.
abbrev pub passes : List (Class × Part)
passes = (Owner, Settled) ∷ (Users, Settled) ∷ (Groups, Allowed) ∷ (Groups, Denied)
    ∷ (Others, Allowed) ∷ []

abbrev pub translation : List EntryValue → List Nfsace4
translation acl = flat_map (λ pass. aces_of_pass pass acl) passes

-- the entry with further flags
abbrev pub with_flags : ℕ → Nfsace4 → Nfsace4
with_flags flags ace = record ace { flags = ace.flags ∪ flags }

-- the flags of an entry that takes effect on the directory itself, and that files and directories
-- below inherit
abbrev pub inheriting_flags : ℕ
inheriting_flags = 2 ^ file_inherit + 2 ^ directory_inherit

-- and of an entry that takes effect only below
abbrev pub only_inheriting_flags : ℕ
only_inheriting_flags = inheriting_flags + 2 ^ inherit_only

-- a default list: its translation, which is only inherited
abbrev pub default_translation : List EntryValue → List Nfsace4
default_translation acl = map (with_flags only_inheriting_flags) (translation acl)

-- The entries of an NFSv4 access control list (RFC 8881, section 6.2.1).
use Rattle.std.specs.Prelude.{◌≡◌, ℕ, ◌^◌, Bool, true, false, not, ◌&&◌, ◌||◌, ◌==◌, if◌then◌else◌}
use Rattle.std.specs.Prelude.{List, [], ◌∷◌}
use Rattle.acl_names.specs.Bits.{has, without, ◌∩◌, ◌∪◌}
use Rattle.acl_nfs4.specs.Flags.{all_flags, file_inherit, directory_inherit, identifier_group}
use Rattle.acl_nfs4.specs.Flags.{inherit_only}
use Rattle.acl_nfs4.specs.Mask.{all_masks}
use Rattle.acl_nfs4.specs.Who.{flags_of_who, is_named_group}
use Rattle.acl_nfs4.specs.declared.ace.AceType.{AceType}
use Rattle.acl_nfs4.specs.declared.ace.AceType.TheVariants.{Allow, Deny, Audit, Alarm}
use Rattle.acl_nfs4.specs.declared.who.Who.{Who}

-- the content of an entry: the standard's nfsace4
pub record Nfsace4 : Type 0 where
  pub kind : AceType
  pub flags : ℕ
  pub who : Who
  pub mask : ℕ

abbrev pub is_allow : AceType → Bool
is_allow Allow = true
is_allow _ = false

abbrev pub is_deny : AceType → Bool
is_deny Deny = true
is_deny _ = false

abbrev pub is_audit_or_alarm : AceType → Bool
is_audit_or_alarm Audit = true
is_audit_or_alarm Alarm = true
is_audit_or_alarm _ = false

-- an entry has no bit without a name, and the group flag exactly if it names a group
pub record IsAce (ace : Nfsace4) : Type 0 where
  pub known_flags : ace.flags ∩ all_flags ≡ ace.flags
  pub known_mask : ace.mask ∩ all_masks ≡ ace.mask
  pub group_flag : has ace.flags identifier_group ≡ is_named_group ace.who

-- the flags, with the group flag if the who is a named group, and without it otherwise
abbrev pub flags_for : Who → ℕ → ℕ
flags_for who flags = without flags (2 ^ identifier_group) ∪ flags_of_who who

-- the entry of these parts, without bits that have no name
abbrev pub ace_of : AceType → ℕ → Who → ℕ → Nfsace4
ace_of kind flags who mask = record {
  kind = kind;
  flags = flags_for who (flags ∩ all_flags);
  who = who;
  mask = mask ∩ all_masks;
}

-- whether the entry allows or denies something on the file itself: it isn't inherit-only
unfoldable pub decides : Nfsace4 → Bool
decides ace = (is_allow ace.kind || is_deny ace.kind) && not (has ace.flags inherit_only)

-- whether new files or directories inherit the entry
abbrev pub is_inheritable : Nfsace4 → Bool
is_inheritable ace = has ace.flags file_inherit || has ace.flags directory_inherit

-- whether the entry has no effect, neither on the file itself nor on what inherits it
abbrev pub is_idle : Nfsace4 → Bool
is_idle ace = has ace.flags inherit_only && not (is_inheritable ace)

-- the entry, unless its mask is empty
unfoldable pub unless_empty : Nfsace4 → List Nfsace4
unless_empty ace = if ace.mask == 0 then [] else ace ∷ []

-- an entry of this kind with no flags of its own, unless its mask is empty
abbrev pub plain_ace : AceType → Who → ℕ → List Nfsace4
plain_ace kind who mask = unless_empty (record {
  kind = kind;
  flags = flags_of_who who;
  who = who;
  mask = mask;
})

-- NFSv4 entries as numbers (RFC 8881, section 6.2.1), and which list they are.
use Rattle.std.specs.Prelude.{◌≡◌, ℕ, ◌==◌, Bool, List, [], ◌∷◌, length, Result, Ok, Err, nat_le}
use Rattle.std.specs.Prelude.{if◌then◌else◌}
use Rattle.acl_names.specs.Bits.{has, ◌∩◌}
use Rattle.acl_names.specs.Steps.{◌>>=◌}
use Rattle.acl_names.specs.declared.limits.TheConstants.{MAX_ID}
use Rattle.acl_nfs4.specs.Ace.{Nfsace4, ace_of, is_idle}
use Rattle.acl_nfs4.specs.Flags.{all_flags, identifier_group}
use Rattle.acl_nfs4.specs.Mask.{all_masks}
use Rattle.acl_nfs4.specs.declared.ace.AceType.{AceType}
use Rattle.acl_nfs4.specs.declared.ace.AceType.TheVariants.{Allow, Deny, Audit, Alarm}
use Rattle.acl_nfs4.specs.declared.limits.TheConstants.{MAX_ACES}
use Rattle.acl_nfs4.specs.declared.who.Who.{Who}
use Rattle.acl_nfs4.specs.declared.who.Who.TheVariants.{Owner, Group, Everyone, User, NamedGroup}
use Rattle.acl_wire.specs.declared.fault.Nfs4Error.{Nfs4Error}
use Rattle.acl_wire.specs.declared.fault.Nfs4Error.TheVariants as errors
use Rattle.acl_wire.specs.declared.fault.Nfs4Fault.{Nfs4Fault}
use Rattle.acl_wire.specs.declared.fault.Nfs4Fault.TheVariants as faults
use Rattle.acl_wire.specs.declared.raw_ace.Purpose.{Purpose}
use Rattle.acl_wire.specs.declared.raw_ace.Purpose.TheVariants.{Decide, Write}
use Rattle.acl_wire.specs.declared.raw_ace.RawAce.{RawAce}

-- what a call answers is this answer, unless memory ran out
abbrev pub FailsAs : {Y : Type 0} → Nfs4Error → Result Y Nfs4Fault → Type 0
FailsAs errors.Memory answer = Unit {0}
FailsAs (errors.Fault fault) answer = answer ≡ Err fault

abbrev pub Answers : {X Y : Type 0} → (X → Y) → Result X Nfs4Error → Result Y Nfs4Fault → Type 0
Answers view (Ok x) answer = answer ≡ Ok (view x)
Answers view (Err error) answer = FailsAs error answer

abbrev pub kind_of : ℕ → Result AceType Nfs4Fault
kind_of number =
    if number == 0 then Ok Allow
    else if number == 1 then Ok Deny
    else if number == 2 then Ok Audit
    else if number == 3 then Ok Alarm
    else Err faults.Type

-- one whom an id names
abbrev pub naming : (ℕ → Who) → ℕ → Result Who Nfs4Fault
naming who id = if nat_le id MAX_ID then Ok (who id) else Err faults.Id

abbrev pub who_of : ℕ → Bool → ℕ → Result Who Nfs4Fault
who_of special is_group id =
    if special == 0 then (if is_group then naming NamedGroup id else naming User id)
    else if special == 1 then Ok Owner
    else if special == 2 then Ok Group
    else if special == 3 then Ok Everyone
    else Err faults.Who

-- the entry, if it has an effect somewhere
abbrev pub effective : Nfsace4 → Result Nfsace4 Nfs4Fault
effective ace = if is_idle ace then Err faults.InheritOnly else Ok ace

-- all bits but ACE4_INHERITED_ACE, and all but ACE4_WRITE_RETENTION and ACE4_WRITE_RETENTION_HOLD
abbrev pub but_inherited : ℕ
but_inherited = 0xffffff7f

abbrev pub but_retention : ℕ
but_retention = 0xfffff9ff

-- what lists are asked: none of the bits that are passed over in their masks
abbrev pub is_request : ℕ → Bool
is_request bits = bits ∩ but_retention == bits

-- why flags, or a mask, with a further bit are refused
abbrev pub flags_fault : ℕ → Nfs4Fault
flags_fault flags = if nat_le (flags ∩ but_inherited) all_flags then faults.Unkept
    else faults.Flags

abbrev pub mask_fault : ℕ → Nfs4Fault
mask_fault mask = if (mask ∩ but_retention) ∩ all_masks == mask ∩ but_retention
    then faults.Unkept else faults.Mask

-- what of the numbers counts: to decide, all but the three bits that decide nothing
abbrev pub seen : Purpose → RawAce → RawAce
seen Decide raw = record {
  kind = raw.kind;
  flags = raw.flags ∩ but_inherited;
  mask = raw.mask ∩ but_retention;
  special = raw.special;
  id = raw.id;
}
seen Write raw = raw

-- the entry of these numbers
unfoldable pub ace_of_raw : RawAce → Result Nfsace4 Nfs4Fault
ace_of_raw raw = do
  kind ← kind_of raw.kind
  flags ← if nat_le raw.flags all_flags then Ok raw.flags else Err (flags_fault raw.flags)
  mask ← if raw.mask ∩ all_masks == raw.mask then Ok raw.mask
      else Err (mask_fault raw.mask)
  who ← who_of raw.special (has flags identifier_group) raw.id
  Ok (ace_of kind flags who mask)

unfoldable pub aces_of : Purpose → List RawAce → Result (List Nfsace4) Nfs4Fault
aces_of purpose [] = Ok []
aces_of purpose (raw ∷ raws) = do
  ace ← ace_of_raw (seen purpose raw)
  first ← effective ace
  others ← aces_of purpose raws
  Ok (first ∷ others)

-- the list of these entries, as it is read for the purpose
abbrev pub list_of : Purpose → List RawAce → Result (List Nfsace4) Nfs4Fault
list_of purpose raws = if nat_le (length raws) MAX_ACES then aces_of purpose raws
    else Err faults.TooMany

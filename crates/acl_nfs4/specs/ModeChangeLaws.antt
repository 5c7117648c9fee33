-- What a change of mode keeps, and whom it grants what (RFC 8881, sections 6.3.2 and 6.4.1.1).
use Rattle.std.specs.Prelude.{◌≡◌, ◌≢◌, ℕ, Bool, true, false, not, ◌&&◌, IsTrue, List}
use Rattle.std.specs.Prelude.{[], ◌∷◌, filter}
use Rattle.std.specs.List.{list_any}
use Rattle.acl_names.specs.Bits.{has}
use Rattle.acl_names.specs.Requester.{Identity, is_in_group}
use Rattle.acl_posix.specs.Mode.{Classes}
use Rattle.acl_nfs4.specs.Ace.{Nfsace4, is_allow, is_audit_or_alarm}
use Rattle.acl_nfs4.specs.Who.{is_special, matches}
use Rattle.acl_nfs4.specs.Flags.{inherit_only}
use Rattle.acl_nfs4.specs.Mask.{mode_bits, mask_of}
use Rattle.acl_nfs4.specs.Evaluation.{allows, speaks}
use Rattle.acl_nfs4.specs.Inheritance.{inherited_list}
use Rattle.acl_nfs4.specs.ModeChange.{beyond_group, names_someone, with_mode_least}
use Rattle.acl_nfs4.specs.declared.inheritance.Kind.{Kind}
use Rattle.acl_nfs4.specs.declared.who.Who.{Who}

-- the second list has the elements of the first, in order
pub data IsSublist {X : Type 0} : List X → List X → Type 0 where
  ends : IsSublist [] []
  skips : {x : X} {xs ys : List X} → IsSublist xs ys → IsSublist xs (x ∷ ys)
  keeps : {x : X} {xs ys : List X} → IsSublist xs ys → IsSublist (x ∷ xs) (x ∷ ys)

abbrev pub audits_and_alarms : List Nfsace4 → List Nfsace4
audits_and_alarms aces = filter (λ ace. is_audit_or_alarm ace.kind) aces

abbrev pub inherit_only_entries : List Nfsace4 → List Nfsace4
inherit_only_entries aces = filter (λ ace. has ace.flags inherit_only) aces

-- whether an entry that decides names someone to whom this applies
abbrev pub names_any : (Who → Bool) → List Nfsace4 → Bool
names_any applies aces = list_any (λ ace. names_someone ace && applies ace.who) aces

-- of the mode's bits the owner is granted those of the mode's user
abbrev pub GrantsOwner : List Nfsace4 → Classes → Type 0
GrantsOwner new mode =
    (owner group : ℕ) (requester : Identity) (bit : ℕ) → IsTrue (has mode_bits bit)
    → requester.uid ≡ owner
    → allows (matches owner group requester) bit new ≡ has (mask_of mode.user) bit

-- another requester whom no entry names is granted those of the mode's group, if it has the file's
-- group
abbrev pub GrantsGroup : List Nfsace4 → List Nfsace4 → Classes → Type 0
GrantsGroup old new mode =
    (owner group : ℕ) (requester : Identity) (bit : ℕ) → IsTrue (has mode_bits bit)
    → requester.uid ≢ owner
    → names_any (matches owner group requester) old ≡ false → is_in_group requester group ≡ true
    → allows (matches owner group requester) bit new ≡ has (mask_of mode.group) bit

-- and those of the mode's others, if it has not
abbrev pub GrantsOthers : List Nfsace4 → List Nfsace4 → Classes → Type 0
GrantsOthers old new mode =
    (owner group : ℕ) (requester : Identity) (bit : ℕ) → IsTrue (has mode_bits bit)
    → requester.uid ≢ owner
    → names_any (matches owner group requester) old ≡ false → is_in_group requester group ≡ false
    → allows (matches owner group requester) bit new ≡ has (mask_of mode.other) bit

-- one whom an entry names is granted none that the mode's group lacks
abbrev pub LimitsNamed : List Nfsace4 → List Nfsace4 → Classes → Type 0
LimitsNamed old new mode =
    (owner group : ℕ) (requester : Identity) (bit : ℕ) → IsTrue (has mode_bits bit)
    → requester.uid ≢ owner
    → names_any (matches owner group requester) old ≡ true → has (mask_of mode.group) bit ≡ false
    → allows (matches owner group requester) bit new ≡ false

-- both lists grant every requester the same bits
abbrev pub DecideEachAlike : List Nfsace4 → List Nfsace4 → Type 0
DecideEachAlike first second = (applies : Who → Bool) (bit : ℕ)
    → allows applies bit first ≡ allows applies bit second

-- the audit and alarm entries are those of before, in order
abbrev pub KeepsAudits : List Nfsace4 → List Nfsace4 → Type 0
KeepsAudits old new = audits_and_alarms new ≡ audits_and_alarms old

-- the inherit-only entries stay, in order
abbrev pub KeepsInheritOnly : List Nfsace4 → List Nfsace4 → Type 0
KeepsInheritOnly old new = IsSublist (inherit_only_entries old) new

-- new files and directories inherit the same
abbrev pub InheritsAlike : List Nfsace4 → List Nfsace4 → Type 0
InheritsAlike old new = (kind : Kind) → inherited_list kind new ≡ inherited_list kind old

-- an entry for a named user or group has the bit, and doesn't allow it
abbrev pub is_refused_by_name : (Who → Bool) → ℕ → List Nfsace4 → Bool
is_refused_by_name applies bit aces = list_any
    (λ ace. not (is_special ace.who) && (speaks applies bit ace && not (is_allow ace.kind))) aces

-- One mode is set with the least denials, and then another, and the others of both have no more
-- than the group. A requester who isn't the owner, and is refused nothing by name in the list
-- before, then has what the second mode's others have, whatever the first mode was.
abbrev pub LaterModesLift : Type 0
LaterModesLift = (aces : List Nfsace4) (first second : Classes) (owner group : ℕ)
    (requester : Identity) (bit : ℕ)
    → beyond_group first ≡ 0 → beyond_group second ≡ 0 → requester.uid ≢ owner
    → is_refused_by_name (matches owner group requester) bit aces ≡ false
    → has (mask_of second.other) bit ≡ true
    → allows (matches owner group requester) bit
    (with_mode_least (with_mode_least aces first) second) ≡ true

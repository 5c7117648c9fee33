-- What a mode that leaves named users and groups keeps, and whom it grants what (RFC 8881, sections
-- 6.3.2 and 6.4.1.1).
use Rattle.std.specs.Prelude.{◌≡◌, ◌≢◌, ℕ, Bool, true, false, IsTrue, List, Some, filter, find}
use Rattle.std.specs.Prelude.{unwrap_or, if◌then◌else◌}
use Rattle.acl_names.specs.Bits.{has}
use Rattle.acl_names.specs.Requester.{Identity, is_in_group}
use Rattle.acl_nfs4.specs.Ace.{Nfsace4}
use Rattle.acl_nfs4.specs.Evaluation.{allows, mode_of, speaks, verdict}
use Rattle.acl_nfs4.specs.Mask.{mask_of, mode_bits}
use Rattle.acl_nfs4.specs.ModeChange.{names_someone}
use Rattle.acl_nfs4.specs.ModeChangeLaws.{GrantsGroup, GrantsOthers, GrantsOwner, InheritsAlike}
use Rattle.acl_nfs4.specs.ModeChangeLaws.{KeepsAudits, KeepsInheritOnly}
use Rattle.acl_nfs4.specs.Who.{matches}
use Rattle.acl_nfs4.specs.declared.who.Who.{Who}
use Rattle.acl_posix.specs.Mode.{AreClasses, Classes}
use Rattle.acl_wire.specs.Keeping.{with_mode_keep}

-- the entries that decide about a named user or group
abbrev pub named_only : List Nfsace4 → List Nfsace4
named_only aces = filter names_someone aces

-- they stand as they are, in order
abbrev pub KeepsNamed : List Nfsace4 → List Nfsace4 → Type 0
KeepsNamed old new = named_only new ≡ named_only old

-- what the mode gives one who isn't the owner
abbrev pub class_for : Classes → ℕ → Identity → ℕ
class_for mode group requester = if is_in_group requester group then mode.group else mode.other

-- of the mode's bits, one who isn't the owner is granted what the first entry says that names him,
-- and where none does what the mode gives the group or the others
abbrev pub DecidesByName : List Nfsace4 → List Nfsace4 → Classes → Type 0
DecidesByName old new mode =
    (owner group : ℕ) (requester : Identity) (bit : ℕ) → IsTrue (has mode_bits bit)
    → requester.uid ≢ owner
    → allows (matches owner group requester) bit new
    ≡ unwrap_or (verdict (matches owner group requester) bit (named_only old))
    (has (mask_of (class_for mode group requester)) bit)

-- one who isn't the owner, and of whom a named entry decided, is decided as before
abbrev pub DecidesNamedAlike : List Nfsace4 → List Nfsace4 → Type 0
DecidesNamedAlike old new =
    (owner group : ℕ) (requester : Identity) (bit : ℕ) (ace : Nfsace4) → requester.uid ≢ owner
    → find (speaks (matches owner group requester) bit) old ≡ Some ace
    → names_someone ace ≡ true
    → allows (matches owner group requester) bit new
    ≡ allows (matches owner group requester) bit old

-- what the mode doesn't speak of is decided as before, for everybody
abbrev pub DecidesRestAlike : List Nfsace4 → List Nfsace4 → Type 0
DecidesRestAlike old new = (applies : Who → Bool) (bit : ℕ) → has mode_bits bit ≡ false
    → verdict applies bit new ≡ verdict applies bit old

-- whom the list with the mode grants what, and what it keeps
pub record IsModeBesideNamed (old : List Nfsace4) (mode : Classes) (new : List Nfsace4) : Type 0
  where
    pub shown : mode_of new ≡ mode
    pub owner_granted : GrantsOwner new mode
    pub group_granted : GrantsGroup old new mode
    pub others_granted : GrantsOthers old new mode
    pub by_name : DecidesByName old new mode
    pub named_alike : DecidesNamedAlike old new
    pub rest_alike : DecidesRestAlike old new
    pub named_kept : KeepsNamed old new
    pub audits_kept : KeepsAudits old new
    pub inherit_only_kept : KeepsInheritOnly old new
    pub inherits_alike : InheritsAlike old new

-- it is so of each list and each mode
abbrev pub ModesStandBesideNamed : Type 0
ModesStandBesideNamed = (aces : List Nfsace4) (mode : Classes) → AreClasses mode
    → IsModeBesideNamed aces mode (with_mode_keep aces mode)

-- a mode that is set after another leaves nothing of it
abbrev pub LastModeCounts : Type 0
LastModeCounts = (aces : List Nfsace4) (first second : Classes)
    → with_mode_keep (with_mode_keep aces first) second ≡ with_mode_keep aces second

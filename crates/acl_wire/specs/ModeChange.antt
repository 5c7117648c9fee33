-- What lists of numbers become if a mode is set: all bits that have a meaning stay.
use Rattle.std.specs.Prelude.{◌≡◌, ◌≤◌, ◌⊎◌, ◌+◌, ◌*◌, ℕ, ◌==◌, Bool, true, false, List, length}
use Rattle.std.specs.Prelude.{Result, Ok, Err, nat_le, if◌then◌else◌}
use Rattle.acl_names.specs.Steps.{◌>>=◌}
use Rattle.acl_nfs4.specs.Ace.{Nfsace4}
use Rattle.acl_nfs4.specs.Mask.{rest_of}
use Rattle.acl_nfs4.specs.ModeChange.{beyond_group, with_mode, with_mode_least}
use Rattle.acl_nfs4.specs.declared.limits.TheConstants.{MAX_ACES}
use Rattle.acl_posix.specs.Mode.{Classes, classes_of}
use Rattle.acl_wire.specs.Keeping.{with_mode_keep}
use Rattle.acl_wire.specs.Kept.{kept_list}
use Rattle.acl_wire.specs.RawAcesWriting.{raws_of}
use Rattle.acl_wire.specs.declared.fault.Nfs4Fault.{Nfs4Fault}
use Rattle.acl_wire.specs.declared.fault.Nfs4Fault.TheVariants as faults
use Rattle.acl_wire.specs.declared.mode_change.ModeRule.{ModeRule}
use Rattle.acl_wire.specs.declared.mode_change.ModeRule.TheVariants.{Profile, Least, Keep}
use Rattle.acl_wire.specs.declared.raw_ace.RawAce.{RawAce}

-- the mode of a number
abbrev pub classes_in : ℕ → Result Classes Nfs4Fault
classes_in mode = if nat_le mode 511 then Ok (classes_of mode) else Err faults.Argument

-- the rule of a number
abbrev pub rule_in : ℕ → Result ModeRule Nfs4Fault
rule_in how =
    if how == 0 then Ok Profile
    else if how == 1 then Ok Least
    else if how == 2 then Ok Keep
    else Err faults.Argument

-- the list with a mode set by a rule
abbrev pub with_mode_by : ModeRule → List Nfsace4 → Classes → List Nfsace4
with_mode_by Profile aces mode = with_mode aces mode
with_mode_by Least aces mode = with_mode_least aces mode
with_mode_by Keep aces mode = with_mode_keep aces mode

-- what the first two rules deny to those whom entries name: all that the mode's group lacks, or
-- the least
abbrev pub denied_by : Bool → Classes → ℕ
denied_by false mode = rest_of mode.group
denied_by true mode = beyond_group mode

-- the numbers of a list that is not too long
abbrev pub fits : List Nfsace4 → Result (List RawAce) Nfs4Fault
fits aces = if nat_le (length aces) MAX_ACES then Ok (raws_of aces) else Err faults.TooMany

-- the numbers of what a list becomes
abbrev pub changed_by : (List Nfsace4 → List Nfsace4) → List RawAce
    → Result (List RawAce) Nfs4Fault
changed_by change raws = kept_list raws >>= λ aces. fits (change aces)

-- the numbers with a mode set by a rule
unfoldable pub changed : ModeRule → Classes → List RawAce → Result (List RawAce) Nfs4Fault
changed rule mode raws = changed_by (λ aces. with_mode_by rule aces mode) raws

-- the same by numbers
unfoldable pub chmod_of : List RawAce → ℕ → ℕ → Result (List RawAce) Nfs4Fault
chmod_of raws mode how = do
  classes ← classes_in mode
  rule ← rule_in how
  changed rule classes raws

-- a draft with so much room, which is no more than a list may have, has enough for whatever so many
-- entries become by a mode
abbrev pub IsDraftFor : ℕ → ℕ → Type 0
IsDraftFor room count = (room ≤ MAX_ACES) × ((3 * count + 5 ≤ room) ⊎ (room ≡ MAX_ACES))

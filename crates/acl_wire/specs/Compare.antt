-- Lists compared for everybody.
use Rattle.std.specs.Prelude.{◌≡◌, ◌≢◌, ◌&&◌, not, ℕ, List, [], ◌∷◌, ◌++◌, Option, Some, None}
use Rattle.std.specs.Prelude.{Result, Ok, Err, length, nat_le, nat_lt, if◌then◌else◌}
use Rattle.acl_bridge.specs.Comparison.{GrantAlikeToAll, grants_at}
use Rattle.acl_names.specs.Bits.{has, ◌∪◌}
use Rattle.acl_names.specs.Requester.{Identity}
use Rattle.acl_names.specs.Steps.{◌>>=◌, or_fault}
use Rattle.acl_names.specs.declared.limits.TheConstants.{MAX_ID}
use Rattle.acl_nfs4.specs.Ace.{Nfsace4}
use Rattle.acl_nfs4.specs.Comparison.{DecideAlike, Decider, decided_at}
use Rattle.acl_nfs4.specs.declared.owners.Owners.{Owners}
use Rattle.acl_posix.specs.Entry.{EntryValue}
use Rattle.acl_wire.specs.Decision.{values_of}
use Rattle.acl_wire.specs.Posix.{acl_of}
use Rattle.acl_wire.specs.RawAces.{is_request}
use Rattle.acl_wire.specs.declared.compare.RawAsker.{RawAsker}
use Rattle.acl_wire.specs.declared.compare.RawDifference.{RawDifference}
use Rattle.acl_wire.specs.declared.compare.RawUnlike.{RawUnlike}
use Rattle.acl_wire.specs.declared.fault.Nfs4Fault.{Nfs4Fault}
use Rattle.acl_wire.specs.declared.fault.Nfs4Fault.TheVariants as nfs4
use Rattle.acl_wire.specs.declared.fault.PosixError.{PosixError}
use Rattle.acl_wire.specs.declared.fault.PosixError.TheVariants as posix_errors
use Rattle.acl_wire.specs.declared.fault.PosixFault.{PosixFault}
use Rattle.acl_wire.specs.declared.fault.PosixFault.TheVariants as posix
use Rattle.acl_wire.specs.declared.raw_ace.RawAce.{RawAce}

-- the group of a number, if it is one
abbrev pub gids_of : ℕ → List ℕ
gids_of gid = if nat_le gid MAX_ID then gid ∷ [] else []

-- the requester that the numbers are
abbrev pub identity_in : RawAsker → Identity
identity_in asker = record { uid = asker.uid; gids = gids_of asker.gid ++ gids_of asker.other_gid }

-- the owners of a file, if these are ids
abbrev pub owners_in : ℕ → ℕ → Option Owners
owners_in owner group = if nat_le owner MAX_ID && nat_le group MAX_ID
    then Some (record { owner = owner; group = group }) else None

-- two lists, each for a file of its own owners
pub record Pair (A : Type 0) : Type 0 where
  pub first : List A
  pub owners : Owners
  pub second : List A
  pub others : Owners

-- the POSIX lists that are compared
unfoldable pub lists_compared : List ℕ → ℕ → ℕ → List ℕ → ℕ → ℕ → ℕ
    → Result (Pair EntryValue) PosixFault
lists_compared first owner group second other_owner other_group request = do
  owners ← or_fault posix.Argument (owners_in owner group)
  others ← or_fault posix.Argument (owners_in other_owner other_group)
  small ← if nat_lt request 8 then Ok request else Err posix.Argument
  one ← acl_of first
  other ← acl_of second
  Ok (record { first = one; owners = owners; second = other; others = others })

-- somebody to whom one of the lists alone grants the request; none if they grant it to the same
-- requesters
abbrev pub AreUnlike : List EntryValue → Owners → List EntryValue → Owners → ℕ → Option RawUnlike
    → Type 0
AreUnlike first owners second others request None =
    GrantAlikeToAll (grants_at first owners) (grants_at second others) request
AreUnlike first owners second others request (Some unlike) =
    (grants_at first owners (identity_in unlike.asker) request ≡ unlike.before)
    × (grants_at second others (identity_in unlike.asker) request ≡ not unlike.before)

-- a call answers that of the lists of these bytes
abbrev pub UnlikeFor : List ℕ → ℕ → ℕ → List ℕ → ℕ → ℕ → ℕ → Result (Option RawUnlike) PosixError
    → Type 0
UnlikeFor first owner group second other_owner other_group request (Ok unlike) =
    (pair : Pair EntryValue)
    × (lists_compared first owner group second other_owner other_group request ≡ Ok pair)
    × AreUnlike pair.first pair.owners pair.second pair.others request unlike
UnlikeFor first owner group second other_owner other_group request (Err posix_errors.Memory) =
    Unit {0}
UnlikeFor first owner group second other_owner other_group request
    (Err (posix_errors.Fault fault)) =
    lists_compared first owner group second other_owner other_group request ≡ Err fault

-- the most entries of an NFSv4 list that is compared: twice as many name fewer users than there
-- are
abbrev pub most_compared : ℕ
most_compared = 2000000000

-- the entries of a list that is compared
abbrev pub compared_of : List RawAce → Result (List Nfsace4) Nfs4Fault
compared_of raws = if nat_le (length raws) most_compared then values_of raws
    else Err nfs4.TooMany

-- the NFSv4 lists that are compared in these bits
unfoldable pub aces_compared : List RawAce → ℕ → ℕ → List RawAce → ℕ → ℕ → ℕ
    → Result (Pair Nfsace4) Nfs4Fault
aces_compared first owner group second other_owner other_group bits = do
  owners ← or_fault nfs4.Argument (owners_in owner group)
  others ← or_fault nfs4.Argument (owners_in other_owner other_group)
  asked ← if is_request bits then Ok bits else Err nfs4.Argument
  one ← compared_of first
  other ← compared_of second
  Ok (record { first = one; owners = owners; second = other; others = others })

-- of these bits somebody loses those that are granted only before and gains those that are granted
-- only after, and there is one
pub record IsWitness (before after : Decider) (bits : ℕ) (difference : RawDifference) : Type 0 where
  pub lost : (bit : ℕ) → has difference.lost bit
      ≡ (has bits bit && (before (identity_in difference.asker) bit
      && not (after (identity_in difference.asker) bit)))
  pub gained : (bit : ℕ) → has difference.gained bit
      ≡ (has bits bit && (after (identity_in difference.asker) bit
      && not (before (identity_in difference.asker) bit)))
  pub some : difference.lost ∪ difference.gained ≢ 0

-- somebody for whom the lists differ; none if they decide alike for everybody
abbrev pub Differ : List Nfsace4 → Owners → List Nfsace4 → Owners → ℕ → Option RawDifference
    → Type 0
Differ first owners second others bits None =
    DecideAlike (decided_at first owners) (decided_at second others) bits
Differ first owners second others bits (Some difference) =
    IsWitness (decided_at first owners) (decided_at second others) bits difference

-- a call answers that of the lists of these entries
abbrev pub DiffersFrom : List RawAce → ℕ → ℕ → List RawAce → ℕ → ℕ → ℕ
    → Result (Option RawDifference) Nfs4Fault → Type 0
DiffersFrom first owner group second other_owner other_group bits (Ok difference) =
    (pair : Pair Nfsace4)
    × (aces_compared first owner group second other_owner other_group bits ≡ Ok pair)
    × Differ pair.first pair.owners pair.second pair.others bits difference
DiffersFrom first owner group second other_owner other_group bits (Err fault) =
    aces_compared first owner group second other_owner other_group bits ≡ Err fault

-- Private steps, which no public clause cites: NFSv4 lists compared where the caller keeps them.
use Rattle.std.specs.Prelude.{◌≡◌, ℕ, List, Result, Ok, Err}
use Rattle.acl_names.specs.Requester.{Identity}
use Rattle.acl_nfs4.specs.Ace.{Nfsace4}
use Rattle.acl_nfs4.specs.Comparison.{AlikeFor, decided_at}
use Rattle.acl_nfs4.specs.declared.owners.Owners.{Owners}
use Rattle.acl_nfs4.specs.declared.who.Who.{Who}
use Rattle.acl_nfs4.specs.declared.who.Who.TheVariants.{Everyone}
use Rattle.acl_wire.specs.Compare.{IsWitness}
use Rattle.acl_wire.specs.Decision.{value_of, values_of}
use Rattle.acl_wire.specs.Nfs4.{IsAllowed}
use Rattle.acl_wire.specs.declared.compare.RawDifference.{RawDifference}
use Rattle.acl_wire.specs.declared.fault.Nfs4Fault.{Nfs4Fault}
use Rattle.acl_wire.specs.declared.raw_ace.RawAce.{RawAce}

abbrev pub who_of_value : Result Nfsace4 Nfs4Fault → Who
who_of_value (Ok ace) = ace.who
who_of_value (Err fault) = Everyone

-- whom an entry of numbers is about; everybody if it is none
abbrev pub who_in : RawAce → Who
who_in raw = who_of_value (value_of raw)

-- an answer is what a list allows
abbrev pub AllowsAt : List Nfsace4 → Owners → Identity → ℕ → Result ℕ Nfs4Fault → Type 0
AllowsAt aces owners requester bits (Ok allowed) =
    IsAllowed aces owners.owner owners.group requester bits allowed
AllowsAt aces owners requester bits (Err fault) = ⊥

-- two lists of numbers decide the bits alike for the requester
abbrev pub AreAlike : List RawAce → Owners → List RawAce → Owners → ℕ → Identity → Type 0
AreAlike first owners second others bits requester = (aces other_aces : List Nfsace4)
    → values_of first ≡ Ok aces → values_of second ≡ Ok other_aces
    → AlikeFor aces other_aces owners others bits requester

-- they differ as this says
abbrev pub AreUnlikeBy : List RawAce → Owners → List RawAce → Owners → ℕ → RawDifference → Type 0
AreUnlikeBy first owners second others bits difference = (aces other_aces : List Nfsace4)
    → values_of first ≡ Ok aces → values_of second ≡ Ok other_aces
    → IsWitness (decided_at aces owners) (decided_at other_aces others) bits difference

-- Requests that are decided by entries of numbers, of which no more are read than it takes.
use Rattle.std.specs.Prelude.{◌≡◌, ◌&&◌, ◌↔◌, IsTrue, not, ℕ, Bool, true, List, [], ◌∷◌, Option}
use Rattle.std.specs.Prelude.{Some, None, Result, Ok, Err, is_some, unwrap_or, if◌then◌else◌}
use Rattle.std.specs.List.{list_all}
use Rattle.acl_names.specs.Bits.{has}
use Rattle.acl_names.specs.Requester.{Identity}
use Rattle.acl_names.specs.Steps.{◌>>=◌}
use Rattle.acl_nfs4.specs.Ace.{Nfsace4}
use Rattle.acl_nfs4.specs.Evaluation.{Grants, places_of, verdict}
use Rattle.acl_nfs4.specs.Who.{matches}
use Rattle.acl_nfs4.specs.declared.who.Who.{Who}
use Rattle.acl_wire.specs.Nfs4.{IsAllowed, are_ids}
use Rattle.acl_wire.specs.RawAces.{ace_of_raw, is_request, list_of, seen}
use Rattle.acl_wire.specs.declared.decision.Decided.{Decided}
use Rattle.acl_wire.specs.declared.fault.Nfs4Fault.{Nfs4Fault}
use Rattle.acl_wire.specs.declared.fault.Nfs4Fault.TheVariants as faults
use Rattle.acl_wire.specs.declared.raw_ace.Purpose.TheVariants.{Decide}
use Rattle.acl_wire.specs.declared.raw_ace.RawAce.{RawAce}

-- the entry of these numbers where it is decided by: it needn't have an effect
abbrev pub value_of : RawAce → Result Nfsace4 Nfs4Fault
value_of raw = ace_of_raw (seen Decide raw)

-- all entries, each of which can be decided by; or what is wrong with the first that can't
unfoldable pub values_of : List RawAce → Result (List Nfsace4) Nfs4Fault
values_of [] = Ok []
values_of (raw ∷ raws) = do
  ace ← value_of raw
  others ← values_of raws
  Ok (ace ∷ others)

-- the entries before the first that is none, and what is wrong with that one
pub record Front : Type 0 where
  pub aces : List Nfsace4
  pub fault : Option Nfs4Fault

abbrev pub led_by : Result Nfsace4 Nfs4Fault → Front → Front
led_by (Ok ace) rest = record { aces = ace ∷ rest.aces; fault = rest.fault }
led_by (Err fault) rest = record { aces = []; fault = Some fault }

unfoldable pub front_of : List RawAce → Front
front_of [] = record { aces = []; fault = None }
front_of (raw ∷ raws) = led_by (value_of raw) (front_of raws)

-- whether there is an entry that speaks of each bit of the request
unfoldable pub settles : (Who → Bool) → List Nfsace4 → ℕ → Bool
settles applies aces request = list_all (λ bit. is_some (verdict applies bit aces))
    (places_of request)

-- entries, unless something is wrong with the next one and it matters
abbrev pub unless_fault : List Nfsace4 → Option Nfs4Fault → Bool
    → Result (List Nfsace4) Nfs4Fault
unless_fault aces None settled = Ok aces
unless_fault aces (Some fault) settled = if settled then Ok aces else Err fault

-- the entries that decide a request: all, or those before the first that is none if they settle it
abbrev pub deciding : (Who → Bool) → List RawAce → ℕ → Result (List Nfsace4) Nfs4Fault
deciding applies raws request = unless_fault (front_of raws).aces (front_of raws).fault
    (settles applies (front_of raws).aces request)

-- the same for a file of this owner and this group, of a request that lists are asked
unfoldable pub decided_by : List RawAce → ℕ → ℕ → Identity → ℕ → Result (List Nfsace4) Nfs4Fault
decided_by raws owner group requester request =
    if are_ids owner group requester.uid && is_request request
    then deciding (matches owner group requester) raws request
    else Err faults.Argument

-- whether the first entry that speaks of the bit denies it
abbrev pub denies : (Who → Bool) → ℕ → List Nfsace4 → Bool
denies applies bit aces = not (unwrap_or (verdict applies bit aces) true)

-- of the bits of a request, those that a list allows and those that it denies
pub record IsDecided (aces : List Nfsace4) (owner group : ℕ) (requester : Identity) (request : ℕ)
    (decided : Decided) : Type 0 where
  pub allowed : IsAllowed aces owner group requester request decided.allowed
  pub denied : (bit : ℕ) → has decided.denied bit
      ≡ (has request bit && denies (matches owner group requester) bit aces)

-- a call answers what these entries say of the request, or why there are none
abbrev pub SaysOf : Result (List Nfsace4) Nfs4Fault → ℕ → ℕ → Identity → ℕ
    → Result Decided Nfs4Fault → Type 0
SaysOf entries owner group requester request (Ok decided) = (aces : List Nfsace4)
    × (entries ≡ Ok aces) × IsDecided aces owner group requester request decided
SaysOf entries owner group requester request (Err fault) = entries ≡ Err fault

-- a call answers what these entries allow of the request, or why there are none
abbrev pub AllowsOf : Result (List Nfsace4) Nfs4Fault → ℕ → ℕ → Identity → ℕ → Result ℕ Nfs4Fault
    → Type 0
AllowsOf entries owner group requester request (Ok allowed) = (aces : List Nfsace4)
    × (entries ≡ Ok aces) × IsAllowed aces owner group requester request allowed
AllowsOf entries owner group requester request (Err fault) = entries ≡ Err fault

-- a call answers whether these entries grant the request, or why there are none
abbrev pub GrantsOf : Result (List Nfsace4) Nfs4Fault → ℕ → ℕ → Identity → ℕ
    → Result Bool Nfs4Fault → Type 0
GrantsOf entries owner group requester request (Ok granted) = (aces : List Nfsace4)
    × (entries ≡ Ok aces) × (IsTrue granted ↔ Grants (matches owner group requester) aces request)
GrantsOf entries owner group requester request (Err fault) = entries ≡ Err fault

-- what is a list as a whole are entries that can be decided by
abbrev pub ListsAreValues : Type 0
ListsAreValues = (raws : List RawAce) (aces : List Nfsace4) → list_of Decide raws ≡ Ok aces
    → values_of raws ≡ Ok aces

-- entries that can all be decided by decide as that list, whatever is asked
abbrev pub ValuesDecideAsAWhole : Type 0
ValuesDecideAsAWhole = (raws : List RawAce) (aces : List Nfsace4) (applies : Who → Bool)
    (request : ℕ) → values_of raws ≡ Ok aces → deciding applies raws request ≡ Ok aces

-- what is a list as a whole is decided by as that list, whatever is asked
abbrev pub ListsDecideAsAWhole : Type 0
ListsDecideAsAWhole = (raws : List RawAce) (aces : List Nfsace4) (applies : Who → Bool)
    (request : ℕ) → list_of Decide raws ≡ Ok aces → deciding applies raws request ≡ Ok aces

-- Entries of numbers that can all be decided by: what they are as a list, what they allow, and whom they are about.
use Rattle.std.proofs.Common.{◌≡◌, ◌∙◌, ◌+◌, ◌≤◌, ◌<◌, ℕ, Bool, true, false, cond, ◌&&◌, List, [], ◌∷◌, Option, Some, None, Result, Ok, Err, refl, sym, ap, ap₂, subst, length, drop, get_or, add-one, nat_le}
use Rattle.std.specs.List.{All}
use Rattle.std.proofs.lemmas.List.{drop_all}
use Rattle.std.proofs.lemmas.List.Elements.{All-cons, All-head, All-nil, All-tail}
use Rattle.std.proofs.Math.Seq.{drop-cons}
use Rattle.acl_names.specs.Bits.{has}
use Rattle.acl_names.specs.Steps.{◌>>=◌}
use Rattle.acl_names.proofs.StepLemmas.{bind_ok, if_else}
use Rattle.acl_nfs4.specs.Ace.{Nfsace4, is_idle}
use Rattle.acl_nfs4.specs.Evaluation.{allows}
use Rattle.acl_nfs4.specs.declared.limits.TheConstants.{MAX_ACES}
use Rattle.acl_nfs4.specs.declared.who.Who.{Who}
use Rattle.acl_wire.specs.Compare.{compared_of, most_compared}
use Rattle.acl_wire.specs.CompareSteps.{who_in, who_of_value}
use Rattle.acl_wire.specs.Decision.{Front, ListsAreValues, ValuesDecideAsAWhole, front_of, led_by, settles, unless_fault, value_of, values_of}
use Rattle.acl_wire.specs.DecisionSteps.{goes_on}
use Rattle.acl_wire.specs.RawAces.{ace_of_raw, aces_of, effective, seen}
use Rattle.acl_wire.specs.XdrRaws.{fault_in}
use Rattle.acl_wire.specs.declared.decision.Found.{Found}
use Rattle.acl_wire.specs.declared.fault.Nfs4Fault.{Nfs4Fault}
use Rattle.acl_wire.specs.declared.fault.Nfs4Fault.TheVariants as faults
use Rattle.acl_wire.specs.declared.raw_ace.Purpose.TheVariants.{Decide}
use Rattle.acl_wire.specs.declared.raw_ace.RawAce.{RawAce}
use Rattle.acl_wire.proofs.AcesLoop.{nothing}
use Rattle.acl_wire.proofs.DecisionLemmas.{Comes, allowed_is, comes, start}
use Rattle.acl_wire.proofs.StepsBack.{ok_same}

-- ---- as a list

pub values-front : (raws : List RawAce) (aces : List Nfsace4) → values_of raws ≡ Ok aces → front_of raws ≡ record { aces = aces; fault = None }
unfolding front_of values_of
values-front [] aces is = ap (λ (all : List Nfsace4). record { aces = all; fault = None }) (ok_same {F = Nfs4Fault} [] aces is)
values-front (raw ∷ raws) aces is =
    let one = bind_ok (value_of raw) _ aces is in
    let two = bind_ok (values_of raws) _ aces one.2 in
    ap₂ led_by one.1 (values-front raws two.0 two.1)
    ∙ ap (λ (list : List Nfsace4). record { aces = list; fault = None }) (ok_same {F = Nfs4Fault} (one.0 ∷ two.0) aces two.2)

pub values_decide : ValuesDecideAsAWhole
values_decide raws aces applies request is =
    ap (λ (f : Front). unless_fault f.aces f.fault (settles applies f.aces request)) (values-front raws aces is)

aces-values : (raws : List RawAce) (aces : List Nfsace4) → aces_of Decide raws ≡ Ok aces → values_of raws ≡ Ok aces
unfolding aces_of values_of
aces-values [] aces is = is
aces-values (raw ∷ raws) aces is =
    let one = bind_ok (ace_of_raw (seen Decide raw)) _ aces is in
    let two = bind_ok (effective one.0) _ aces one.2 in
    let three = bind_ok (aces_of Decide raws) _ aces two.2 in
    let same : one.0 ≡ two.0 = (if_else (is_idle one.0) faults.InheritOnly one.0 two.0 two.1).1 in
    let first : value_of raw ≡ Ok two.0 = one.1 ∙ ap (λ (ace : Nfsace4). Ok ace) same in
    rw (first, aces-values raws three.0 three.1) three.2

pub are_values : ListsAreValues
are_values raws aces is = aces-values raws aces (taken (nat_le (length raws) MAX_ACES) (aces_of Decide raws) is)
  where
    taken : (b : Bool) (read : Result (List Nfsace4) Nfs4Fault) → cond b read (Err faults.TooMany) ≡ Ok aces → read ≡ Ok aces
    taken true read e = e
    taken false read e = cc

-- ---- one after the other

next-fault : (ace : Nfsace4) (read : Result (List Nfsace4) Nfs4Fault) → fault_in (read >>= λ others. Ok (ace ∷ others)) ≡ fault_in read
next-fault ace (Ok others) = refl
next-fault ace (Err fault) = refl

module _ (raws : List RawAce) (i : ℕ) (total : Option Nfs4Fault) (so_far : fault_in (values_of (drop i raws)) ≡ total) where
  pub all_values : length raws ≤ i → None ≡ total
  unfolding values_of
  all_values done =
      let here : fault_in (values_of (drop i raws)) ≡ None = rw (drop_all i raws done) refl in
      sym here ∙ so_far

  module _ (more : i < length raws) where
    cut : drop i raws ≡ get_or raws i nothing ∷ drop (i + 1) raws
    cut = rw add-one (drop-cons raws i nothing more)

    pub value_next : (ace : Nfsace4) → value_of (get_or raws i nothing) ≡ Ok ace → fault_in (values_of (drop (i + 1) raws)) ≡ total
    unfolding values_of
    value_next ace is =
        let here : fault_in (values_of (drop i raws)) ≡ fault_in (values_of (drop (i + 1) raws)) = rw (cut, is) (next-fault ace (values_of (drop (i + 1) raws))) in
        sym here ∙ so_far

    pub value_ends : (fault : Nfs4Fault) → value_of (get_or raws i nothing) ≡ Err fault → Some fault ≡ total
    unfolding values_of
    value_ends fault is =
        let here : fault_in (values_of (drop i raws)) ≡ Some fault = rw (cut, is) refl in
        sym here ∙ so_far

-- no fault is an answer
pub faultless : {Y F : Type 0} (read : Result Y F) → fault_in read ≡ None → (value : Y) × (read ≡ Ok value)
faultless (Ok value) e = (value, refl)
faultless (Err fault) e = cc

pub faulty : {Y F : Type 0} (read : Result Y F) (fault : F) → fault_in read ≡ Some fault → read ≡ Err fault
faulty (Ok value) fault e = cc
faulty {Y} {F} (Err other) fault e = ap (λ (f : F). Err f) (same e)
  where
    same : Some other ≡ Some fault → other ≡ fault
    same e = cc

-- what is compared are values
pub compared-value : (raws : List RawAce) (aces : List Nfsace4) → compared_of raws ≡ Ok aces → values_of raws ≡ Ok aces
compared-value raws aces is = by (nat_le (length raws) most_compared) (values_of raws) is
  where
    by : (b : Bool) (read : Result (List Nfsace4) Nfs4Fault) → cond b read (Err faults.TooMany) ≡ Ok aces → read ≡ Ok aces
    by true read e = e
    by false read e = cc

-- ---- what they allow

module _ (applies : Who → Bool) (raws : List RawAce) (request : ℕ) (aces : List Nfsace4) (is : values_of raws ≡ Ok aces) where
  come : (result : Result Found Nfs4Fault) → goes_on applies (start applies raws request) raws ≡ result → Comes applies (start applies raws request) (record { aces = aces; fault = None }) result
  come result ends =
      subst (λ (front : Front). Comes applies (start applies raws request) front result) (values-front raws aces is)
      (subst (Comes applies (start applies raws request) (front_of raws)) ends (comes applies raws (start applies raws request)))

  -- what is found is what they allow
  pub found-allows : (found : Found) → goes_on applies (start applies raws request) raws ≡ Ok found → (bit : ℕ) → has found.allowed bit ≡ (has request bit && allows applies bit aces)
  found-allows after ends bit =
      allowed_is applies raws request after (subst (Comes applies (start applies raws request) (front_of raws)) ends (comes applies raws (start applies raws request))) bit
      ∙ ap (λ (front : Front). has request bit && allows applies bit front.aces) (values-front raws aces is)

  -- and there is no fault
  pub found-faultless : (fault : Nfs4Fault) → goes_on applies (start applies raws request) raws ≡ Err fault → ⊥
  found-faultless fault ends = none (come (Err fault) ends).0
    where
      none : None ≡ Some fault → ⊥
      none e = absurd cc

-- ---- whom they are about

pub each-value : (P : Who → Type 0) (raws : List RawAce) (aces : List Nfsace4) → values_of raws ≡ Ok aces → All (λ raw. P (who_in raw)) raws → All (λ (ace : Nfsace4). P ace.who) aces
unfolding values_of
each-value P [] aces is each = subst (All (λ (ace : Nfsace4). P ace.who)) (ok_same {F = Nfs4Fault} [] aces is) (All-nil (λ (ace : Nfsace4). P ace.who))
each-value P (raw ∷ raws) aces is each =
    let one = bind_ok (value_of raw) _ aces is in
    let two = bind_ok (values_of raws) _ aces one.2 in
    subst (All (λ (ace : Nfsace4). P ace.who)) (ok_same {F = Nfs4Fault} (one.0 ∷ two.0) aces two.2)
    (All-cons (λ (ace : Nfsace4). P ace.who) one.0 two.0
    (subst (λ (read : Result Nfsace4 Nfs4Fault). P (who_of_value read)) one.1 (All-head (λ (raw : RawAce). P (who_in raw)) raw raws each))
    (each-value P raws two.0 two.1 (All-tail (λ (raw : RawAce). P (who_in raw)) raw raws each)))

-- Reading NFSv4 entries in XDR one after the other, as a loop does.
use Rattle.std.proofs.Common.{◌≡◌, ℕ, suc, ◌-◌, ◌+◌, ◌≤◌, ◌<◌, List, [], ◌∷◌, ◌++◌, Result, Ok, Err, refl, sym, ap, ◌∙◌, append_assoc, arith}
use Rattle.std.proofs.lemmas.List.{append-nil}
use Rattle.acl_names.specs.Steps.{◌>>=◌}
use Rattle.acl_nfs4.specs.Ace.{Nfsace4}
use Rattle.acl_wire.specs.RawAces.{FailsAs, ace_of_raw, effective}
use Rattle.acl_wire.specs.Xdr.{aces_at, all_of, raw_at}
use Rattle.acl_wire.specs.declared.fault.Nfs4Error.{Nfs4Error}
use Rattle.acl_wire.specs.declared.fault.Nfs4Error.TheVariants as errors
use Rattle.acl_wire.specs.declared.fault.Nfs4Fault.{Nfs4Fault}
use Rattle.acl_wire.specs.declared.raw_ace.RawAce.{RawAce}

-- what was read before, and what is still read
abbrev pub with_front : {A : Type 0} → List A → Result (List A × List ℕ) Nfs4Fault → Result (List A × List ℕ) Nfs4Fault
with_front front read = read >>= λ x. Ok (front ++ x.0, x.1)

pub regroup : {A : Type 0} (front : List A) (one : A) (read : Result (List A × List ℕ) Nfs4Fault) → with_front front (read >>= λ x. Ok (one ∷ x.0, x.1)) ≡ with_front (front ++ one ∷ []) read
regroup {A} front one (Ok x) = ap (λ (all : List A). Ok (all, x.1)) (simp append_assoc)
regroup front one (Err fault) = refl

pub in_front : {A : Type 0} (front : List A) (read : Result (List A × List ℕ) Nfs4Fault) → front ≡ [] → with_front front read ≡ read
in_front {A} front (Ok x) none = ap (λ (all : List A). Ok (all ++ x.0, x.1)) none
in_front front (Err fault) none = refl

module _ (front : List Nfsace4) (count i : ℕ) (rest bytes : List ℕ) (so_far : with_front front (aces_at (count - i) rest) ≡ aces_at count bytes) where
  module _ (lt : i < count) where
    pub goes_on : (raw : RawAce) (behind : List ℕ) (ace : Nfsace4) → raw_at rest ≡ Ok (raw, behind) → ace_of_raw raw ≡ Ok ace → effective ace ≡ Ok ace
        → with_front (front ++ ace ∷ []) (aces_at (count - (i + 1)) behind) ≡ aces_at count bytes
    unfolding aces_at
    goes_on raw behind ace read is has_effect =
        let k : count - i ≡ suc (count - (i + 1)) = omega arith in
        let one : with_front front (aces_at (count - i) rest) ≡ with_front (front ++ ace ∷ []) (aces_at (count - (i + 1)) behind) = rw (k, read, is, has_effect) (regroup front ace (aces_at (count - (i + 1)) behind)) in
        sym one ∙ so_far

    -- bytes that are no entry
    pub ends : (fault : Nfs4Fault) → raw_at rest ≡ Err fault → all_of count bytes ≡ Err fault
    unfolding aces_at
    ends fault read =
        let k : count - i ≡ suc (count - (i + 1)) = omega arith in
        let one : with_front front (aces_at (count - i) rest) ≡ Err fault = rw (k, read) refl in
        let whole : aces_at count bytes ≡ Err fault = sym so_far ∙ one in
        rw whole refl

    -- numbers that are no entry
    pub ends_at : (raw : RawAce) (behind : List ℕ) (fault : Nfs4Fault) → raw_at rest ≡ Ok (raw, behind) → ace_of_raw raw ≡ Err fault → all_of count bytes ≡ Err fault
    unfolding aces_at
    ends_at raw behind fault read is =
        let k : count - i ≡ suc (count - (i + 1)) = omega arith in
        let one : with_front front (aces_at (count - i) rest) ≡ Err fault = rw (k, read, is) refl in
        let whole : aces_at count bytes ≡ Err fault = sym so_far ∙ one in
        rw whole refl

    -- an entry without an effect
    pub fails_at : (raw : RawAce) (behind : List ℕ) (ace : Nfsace4) (error : Nfs4Error) → raw_at rest ≡ Ok (raw, behind) → ace_of_raw raw ≡ Ok ace → FailsAs error (effective ace)
        → FailsAs error (all_of count bytes)
    unfolding aces_at
    fails_at raw behind ace errors.Memory read is fails = tt
    fails_at raw behind ace (errors.Fault fault) read is fails =
        let k : count - i ≡ suc (count - (i + 1)) = omega arith in
        let one : with_front front (aces_at (count - i) rest) ≡ Err fault = rw (k, read, is, fails) refl in
        let whole : aces_at count bytes ≡ Err fault = sym so_far ∙ one in
        rw whole refl

  pub is_done : count ≤ i → aces_at count bytes ≡ Ok (front, rest)
  unfolding aces_at
  is_done le =
      let k : count - i ≡ 0 = omega arith in
      let one : with_front front (aces_at (count - i) rest) ≡ Ok (front, rest) = rw k (ap (λ (aces : List Nfsace4). Ok (aces, rest)) (append-nil front)) in
      sym so_far ∙ one

-- Entries in XDR read one after the other, as loops do.
use Rattle.std.proofs.Common.{◌≡◌, ℕ, zero, suc, ◌-◌, ◌+◌, ◌≤◌, ◌<◌, ◌==◌, Bool, true, false, cond, List, [], ◌∷◌, ◌++◌, Option, Some, None, Result, Ok, Err, length, drop, refl, sym, ap, ap₂, subst, ◌∙◌, get_or, add-one, append-nil, append_assoc, arith, length-append}
use Rattle.std.proofs.lemmas.List.{set_at}
use Rattle.std.proofs.Math.ListN.{set}
use Rattle.std.proofs.Math.Seq.{drop-cons}
use Rattle.acl_names.specs.Steps.{◌>>=◌}
use Rattle.acl_names.proofs.StepLemmas.{bind_ok}
use Rattle.acl_nfs4.specs.Ace.{Nfsace4}
use Rattle.acl_wire.specs.Decision.{value_of}
use Rattle.acl_wire.specs.Written.{tidied_raw}
use Rattle.acl_wire.specs.Xdr.{raw_at}
use Rattle.acl_wire.specs.XdrRaws.{fault_in, raws_at, whole}
use Rattle.acl_wire.specs.declared.fault.Nfs4Fault.{Nfs4Fault}
use Rattle.acl_wire.specs.declared.fault.Nfs4Fault.TheVariants as faults
use Rattle.acl_wire.specs.declared.raw_ace.RawAce.{RawAce}
use Rattle.acl_wire.proofs.StepsBack.{answer, ok_same}

abbrev pub no_raws : List RawAce
no_raws = []

-- an entry in front leaves the fault
behind-fault : (raw : RawAce) (read : Result (List RawAce × List ℕ) Nfs4Fault) → fault_in (whole (read >>= λ others. Ok (raw ∷ others.0, others.1))) ≡ fault_in (whole read)
behind-fault raw (Err fault) = refl
behind-fault raw (Ok all) = by (length all.1 == 0)
  where
    by : (b : Bool) → fault_in (cond b (Ok (raw ∷ all.0)) (Err faults.Size)) ≡ fault_in (cond b (Ok all.0) (Err faults.Size))
    by true = refl
    by false = refl

module _ (count i : ℕ) (rest : List ℕ) (total : Option Nfs4Fault) (so_far : fault_in (whole (raws_at (count - i) rest)) ≡ total) where
  module _ (more : i < count) where
    pub goes_on : (raw : RawAce) (behind : List ℕ) (ace : Nfsace4) → raw_at rest ≡ Ok (raw, behind) → value_of raw ≡ Ok ace
        → fault_in (whole (raws_at (count - (i + 1)) behind)) ≡ total
    unfolding raws_at
    goes_on raw behind ace read is =
        let k : count - i ≡ suc (count - (i + 1)) = omega arith in
        let one : fault_in (whole (raws_at (count - i) rest)) ≡ fault_in (whole (raws_at (count - (i + 1)) behind)) = rw (k, read, is) (behind-fault (tidied_raw raw) (raws_at (count - (i + 1)) behind)) in
        sym one ∙ so_far

    pub ends : (fault : Nfs4Fault) → raw_at rest ≡ Err fault → Some fault ≡ total
    unfolding raws_at
    ends fault read =
        let k : count - i ≡ suc (count - (i + 1)) = omega arith in
        let one : fault_in (whole (raws_at (count - i) rest)) ≡ Some fault = rw (k, read) refl in
        sym one ∙ so_far

    pub ends_at : (raw : RawAce) (behind : List ℕ) (fault : Nfs4Fault) → raw_at rest ≡ Ok (raw, behind) → value_of raw ≡ Err fault → Some fault ≡ total
    unfolding raws_at
    ends_at raw behind fault read is =
        let k : count - i ≡ suc (count - (i + 1)) = omega arith in
        let one : fault_in (whole (raws_at (count - i) rest)) ≡ Some fault = rw (k, read, is) refl in
        sym one ∙ so_far

  -- the entries are done
  pub is_done : count ≤ i → fault_in (cond (length rest == 0) (Ok no_raws) (Err faults.Size)) ≡ total
  unfolding raws_at
  is_done le =
      let k : count - i ≡ 0 = omega arith in
      let one : fault_in (whole (raws_at (count - i) rest)) ≡ fault_in (cond (length rest == 0) (Ok no_raws) (Err faults.Size)) = rw k refl in
      sym one ∙ so_far

-- ---- entries that are put

split : (xs ys : List RawAce) (ms ns : List ℕ) → answer {A = List RawAce × List ℕ} Nfs4Fault (xs, ms) ≡ Ok (ys, ns) → (xs ≡ ys) × (ms ≡ ns)
split xs ys ms ns e =
    let same = ok_same {A = List RawAce × List ℕ} (xs, ms) (ys, ns) e in
    (ap (λ (both : List RawAce × List ℕ). both.0) same, ap (λ (both : List RawAce × List ℕ). both.1) same)

-- an entry that was read, and those behind it
record Parts (n : ℕ) (bytes : List ℕ) (raws : List RawAce) (end : List ℕ) : Type 0 where
  pub raw : RawAce
  pub behind : List ℕ
  pub others : List RawAce
  pub read : raw_at bytes ≡ Ok (raw, behind)
  pub more : raws_at n behind ≡ Ok (others, end)
  pub all : raws ≡ tidied_raw raw ∷ others

parts : (n : ℕ) (bytes : List ℕ) (raws : List RawAce) (end : List ℕ) → raws_at (suc n) bytes ≡ Ok (raws, end) → Parts n bytes raws end
unfolding raws_at
parts n bytes raws end is =
    let one = bind_ok (raw_at bytes) _ (raws, end) is in
    let two = bind_ok (value_of one.0.0) _ (raws, end) one.2 in
    let three = bind_ok (raws_at n one.0.1) _ (raws, end) two.2 in
    let same = split (tidied_raw one.0.0 ∷ three.0.0) raws three.0.1 end three.2 in
    record {
      raw = one.0.0;
      behind = one.0.1;
      others = three.0.0;
      read = one.1;
      more = three.1 ∙ ap (λ (bytes : List ℕ). Ok (three.0.0, bytes)) same.1;
      all = sym same.0;
    }

-- as many entries as are said
pub raws_at-length : (n : ℕ) (bytes : List ℕ) (raws : List RawAce) (end : List ℕ) → raws_at n bytes ≡ Ok (raws, end) → length raws ≡ n
unfolding raws_at
raws_at-length zero bytes raws end is = omega (arith, ap length (split no_raws raws bytes end is).0)
raws_at-length (suc n) bytes raws end is =
    let it = parts n bytes raws end is in
    let more = raws_at-length n it.behind it.others end it.more in
    omega (arith, ap length it.all)

-- so many entries stand in the buffer, and the others are still to be read
pub record IsPut (raws : List RawAce) (end : List ℕ) (n place : ℕ) (rest : List ℕ) (old new : List RawAce) : Type 0 where
  pub front : List RawAce
  pub behind : List RawAce
  pub read : raws_at n rest ≡ Ok (behind, end)
  pub cut : raws ≡ front ++ behind
  pub many : length front ≡ place
  pub put : new ≡ front ++ drop place old

pub put_none : (raws : List RawAce) (end : List ℕ) (n : ℕ) (bytes : List ℕ) (old : List RawAce) → raws_at n bytes ≡ Ok (raws, end) → IsPut raws end n 0 bytes old old
put_none raws end n bytes old is = record { front = []; behind = raws; read = is; cut = refl; many = refl; put = refl }

put_all : (raws : List RawAce) (end : List ℕ) (place : ℕ) (rest : List ℕ) (old new : List RawAce) → IsPut raws end 0 place rest old new → new ≡ raws ++ drop (length raws) old
unfolding raws_at
put_all raws end place rest old new so_far =
    let none = (split no_raws so_far.behind rest end so_far.read).0 in
    let all : raws ≡ so_far.front = so_far.cut ∙ ap (λ (behind : List RawAce). so_far.front ++ behind) (sym none) ∙ append-nil so_far.front in
    let count_is : length raws ≡ place = ap length all ∙ so_far.many in
    so_far.put ∙ ap₂ (λ (front : List RawAce) (n : ℕ). front ++ drop n old) (sym all) (sym count_is)

put_more : (raws : List RawAce) (end : List ℕ) (n place : ℕ) (rest : List ℕ) (old new : List RawAce) → IsPut raws end (suc n) place rest old new
    → (raw : RawAce) (behind : List ℕ) → raw_at rest ≡ Ok (raw, behind) → place < length old → IsPut raws end n (place + 1) behind old (set new place (tidied_raw raw))
put_more raws end n place rest old new so_far raw behind is room =
    let it = parts n rest so_far.behind end so_far.read in
    let same = ok_same {A = RawAce × List ℕ} (it.raw, it.behind) (raw, behind) (sym it.read ∙ is) in
    let raw_is : it.raw ≡ raw = ap (λ (both : RawAce × List ℕ). both.0) same in
    let behind_is : it.behind ≡ behind = ap (λ (both : RawAce × List ℕ). both.1) same in
    let next : drop place old ≡ get_or old place raw ∷ drop (place + 1) old = rw add-one (drop-cons old place raw room) in
    record {
      front = so_far.front ++ tidied_raw raw ∷ [];
      behind = it.others;
      read = ap (raws_at n) (sym behind_is) ∙ it.more;
      cut = so_far.cut ∙ ap (λ (all : List RawAce). so_far.front ++ all) (it.all ∙ ap (λ (r : RawAce). tidied_raw r ∷ it.others) raw_is)
          ∙ sym (append_assoc so_far.front (tidied_raw raw ∷ []) it.others);
      many = omega (arith, length-append so_far.front (tidied_raw raw ∷ []), so_far.many);
      put = ap (λ (all : List RawAce). set all place (tidied_raw raw)) (so_far.put ∙ ap (λ (all : List RawAce). so_far.front ++ all) next)
          ∙ set_at so_far.front (get_or old place raw) (drop (place + 1) old) (tidied_raw raw) place so_far.many
          ∙ sym (append_assoc so_far.front (tidied_raw raw ∷ []) (drop (place + 1) old));
    }

reads : (n : ℕ) (rest : List ℕ) (raws : List RawAce) (end : List ℕ) (fault : Nfs4Fault) → raws_at (suc n) rest ≡ Ok (raws, end) → raw_at rest ≡ Err fault → ⊥
reads n rest raws end fault is none = let it = parts n rest raws end is in apart (it.raw, it.behind) (sym it.read ∙ none)
  where
    apart : (read : RawAce × List ℕ) → Ok read ≡ Err fault → ⊥
    apart read e = cc

module _ (raws : List RawAce) (end : List ℕ) (count place : ℕ) (rest : List ℕ) (old new : List RawAce) (so_far : IsPut raws end (count - place) place rest old new) where
  pub put_done : count ≤ place → new ≡ raws ++ drop (length raws) old
  put_done le =
      let k : count - place ≡ 0 = omega arith in
      put_all raws end place rest old new (subst (λ (n : ℕ). IsPut raws end n place rest old new) k so_far)

  module _ (more : place < count) where
    step : IsPut raws end (suc (count - (place + 1))) place rest old new
    step = let k : count - place ≡ suc (count - (place + 1)) = omega arith in subst (λ (n : ℕ). IsPut raws end n place rest old new) k so_far

    -- there is an entry
    pub put_reads : (fault : Nfs4Fault) → raw_at rest ≡ Err fault → ⊥
    put_reads fault = reads (count - (place + 1)) rest step.behind end fault step.read

    pub put_next : (raw : RawAce) (behind : List ℕ) → raw_at rest ≡ Ok (raw, behind) → count ≤ length old
        → IsPut raws end (count - (place + 1)) (place + 1) behind old (set new place (tidied_raw raw))
    put_next raw behind is room = put_more raws end (count - (place + 1)) place rest old new step raw behind is (omega arith)

-- ---- the whole

-- what is read if there is no fault
pub no_fault : (read : Result (List RawAce × List ℕ) Nfs4Fault) → None ≡ fault_in (whole read)
    → (raws : List RawAce) × ((end : List ℕ) × (read ≡ Ok (raws, end)) × (whole read ≡ Ok raws))
no_fault (Err fault) none = cc
no_fault (Ok all) none = let tested = held (length all.1 == 0) none in (all.0, (all.1, refl, rw tested refl))
  where
    held : (b : Bool) → None ≡ fault_in (cond b (Ok all.0) (Err faults.Size)) → b ≡ true
    held true e = refl
    held false e = cc

pub a_fault : (read : Result (List RawAce × List ℕ) Nfs4Fault) (fault : Nfs4Fault) → Some fault ≡ fault_in (whole read) → whole read ≡ Err fault
a_fault read fault = by (whole read)
  where
    by : (all : Result (List RawAce) Nfs4Fault) → Some fault ≡ fault_in all → all ≡ Err fault
    by (Ok raws) e = cc
    by (Err other) e = cc

-- Entries in XDR read into a list one after the other, as a loop does.
use Rattle.std.proofs.Common.{◌≡◌, ◌∙◌, ℕ, suc, ◌-◌, ◌+◌, ◌≤◌, ◌<◌, List, [], ◌∷◌, ◌++◌, Ok, Err, refl, sym, ap, arith}
use Rattle.std.proofs.lemmas.List.{append-nil}
use Rattle.acl_nfs4.specs.Ace.{Nfsace4}
use Rattle.acl_wire.specs.Decision.{value_of}
use Rattle.acl_wire.specs.Written.{tidied_raw}
use Rattle.acl_wire.specs.Xdr.{raw_at}
use Rattle.acl_wire.specs.XdrRaws.{raws_at, whole}
use Rattle.acl_wire.specs.declared.fault.Nfs4Fault.{Nfs4Fault}
use Rattle.acl_wire.specs.declared.raw_ace.RawAce.{RawAce}
use Rattle.acl_wire.proofs.XdrLoop.{regroup, with_front}

module _ (front : List RawAce) (count i : ℕ) (rest bytes : List ℕ) (so_far : with_front front (raws_at (count - i) rest) ≡ raws_at count bytes) where
  module _ (more : i < count) where
    pub reads_on : (raw : RawAce) (behind : List ℕ) (ace : Nfsace4) → raw_at rest ≡ Ok (raw, behind) → value_of raw ≡ Ok ace
        → with_front (front ++ tidied_raw raw ∷ []) (raws_at (count - (i + 1)) behind) ≡ raws_at count bytes
    unfolding raws_at
    reads_on raw behind ace read is =
        let k : count - i ≡ suc (count - (i + 1)) = omega arith in
        let one : with_front front (raws_at (count - i) rest) ≡ with_front (front ++ tidied_raw raw ∷ []) (raws_at (count - (i + 1)) behind) =
        rw (k, read, is) (regroup front (tidied_raw raw) (raws_at (count - (i + 1)) behind)) in
        sym one ∙ so_far

    -- bytes that are no entry
    pub stops : (fault : Nfs4Fault) → raw_at rest ≡ Err fault → whole (raws_at count bytes) ≡ Err fault
    unfolding raws_at
    stops fault read =
        let k : count - i ≡ suc (count - (i + 1)) = omega arith in
        let one : with_front front (raws_at (count - i) rest) ≡ Err fault = rw (k, read) refl in
        ap whole (sym so_far ∙ one)

    -- numbers that are no entry
    pub stops_at : (raw : RawAce) (behind : List ℕ) (fault : Nfs4Fault) → raw_at rest ≡ Ok (raw, behind) → value_of raw ≡ Err fault → whole (raws_at count bytes) ≡ Err fault
    unfolding raws_at
    stops_at raw behind fault read is =
        let k : count - i ≡ suc (count - (i + 1)) = omega arith in
        let one : with_front front (raws_at (count - i) rest) ≡ Err fault = rw (k, read, is) refl in
        ap whole (sym so_far ∙ one)

  pub all_read : count ≤ i → raws_at count bytes ≡ Ok (front, rest)
  unfolding raws_at
  all_read le =
      let k : count - i ≡ 0 = omega arith in
      let one : with_front front (raws_at (count - i) rest) ≡ Ok (front, rest) = rw k (ap (λ (raws : List RawAce). Ok (raws, rest)) (append-nil front)) in
      sym so_far ∙ one

-- Reading NFSv4 entries one after the other, as a loop does.
use Rattle.std.proofs.Common.{◌≡◌, ℕ, ◌+◌, ◌≤◌, ◌<◌, List, [], ◌∷◌, ◌++◌, length, get_or, drop, Result, Ok, Err, refl, sym, ap, ◌∙◌, append_assoc, add-one}
use Rattle.std.proofs.lemmas.List.{append-nil, drop_all}
use Rattle.std.proofs.Math.Seq.{drop-cons}
use Rattle.acl_names.specs.Steps.{◌>>=◌}
use Rattle.acl_nfs4.specs.Ace.{Nfsace4}
use Rattle.acl_wire.specs.RawAces.{Answers, FailsAs, ace_of_raw, aces_of, effective, seen}
use Rattle.acl_wire.specs.declared.fault.Nfs4Error.{Nfs4Error}
use Rattle.acl_wire.specs.declared.fault.Nfs4Error.TheVariants as errors
use Rattle.acl_wire.specs.declared.fault.Nfs4Fault.{Nfs4Fault}
use Rattle.acl_wire.specs.declared.raw_ace.Purpose.{Purpose}
use Rattle.acl_wire.specs.declared.raw_ace.RawAce.{RawAce}

-- what was read before, and what is still read
abbrev pub with_front : List Nfsace4 → Result (List Nfsace4) Nfs4Fault → Result (List Nfsace4) Nfs4Fault
with_front front read = read >>= λ rest. Ok (front ++ rest)

regroup : (front : List Nfsace4) (ace : Nfsace4) (read : Result (List Nfsace4) Nfs4Fault) → with_front front (read >>= λ rest. Ok (ace ∷ rest)) ≡ with_front (front ++ ace ∷ []) read
regroup front ace (Ok rest) = ap (λ (all : List Nfsace4). Ok all) (simp append_assoc)
regroup front ace (Err fault) = refl

-- what a read past the end would give
abbrev pub nothing : RawAce
nothing = record { kind = 0; flags = 0; mask = 0; special = 0; id = 0 }

module _ (purpose : Purpose) (front : List Nfsace4) (raws : List RawAce) (i : ℕ) (lt : i < length raws) (so_far : with_front front (aces_of purpose (drop i raws)) ≡ aces_of purpose raws) where
  cut : drop i raws ≡ get_or raws i nothing ∷ drop (i + 1) raws
  cut = rw add-one (drop-cons raws i nothing lt)

  pub goes_on : (ace : Nfsace4) → ace_of_raw (seen purpose (get_or raws i nothing)) ≡ Ok ace → effective ace ≡ Ok ace → with_front (front ++ ace ∷ []) (aces_of purpose (drop (i + 1) raws)) ≡ aces_of purpose raws
  unfolding aces_of
  goes_on ace read has_effect =
      let one : with_front front (aces_of purpose (drop i raws)) ≡ with_front (front ++ ace ∷ []) (aces_of purpose (drop (i + 1) raws)) = rw (cut, read, has_effect) (regroup front ace (aces_of purpose (drop (i + 1) raws))) in
      sym one ∙ so_far

  -- numbers that are no entry
  pub ends : (fault : Nfs4Fault) → ace_of_raw (seen purpose (get_or raws i nothing)) ≡ Err fault → aces_of purpose raws ≡ Err fault
  unfolding aces_of
  ends fault read =
      let one : with_front front (aces_of purpose (drop i raws)) ≡ Err fault = rw (cut, read) refl in
      sym so_far ∙ one

  -- an entry without an effect
  pub ends_at : (ace : Nfsace4) (error : Nfs4Error) → ace_of_raw (seen purpose (get_or raws i nothing)) ≡ Ok ace → FailsAs error (effective ace) → FailsAs error (aces_of purpose raws)
  unfolding aces_of
  ends_at ace errors.Memory read fails = tt
  ends_at ace (errors.Fault fault) read fails =
      let one : with_front front (aces_of purpose (drop i raws)) ≡ Err fault = rw (cut, read, fails) refl in
      sym so_far ∙ one

pub is_done : (purpose : Purpose) (front : List Nfsace4) (raws : List RawAce) (i : ℕ) → length raws ≤ i → with_front front (aces_of purpose (drop i raws)) ≡ aces_of purpose raws → aces_of purpose raws ≡ Ok front
unfolding aces_of
is_done purpose front raws i le so_far =
    let one : with_front front (aces_of purpose (drop i raws)) ≡ Ok front = rw (drop_all i raws le) (ap (λ (all : List Nfsace4). Ok all) (append-nil front)) in
    sym so_far ∙ one

pub answers-err : {X Y : Type 0} (view : X → Y) (result : Result X Nfs4Error) (error : Nfs4Error) (answer : Result Y Nfs4Fault) → result ≡ Err error → FailsAs error answer → Answers view result answer
answers-err view result error answer is fails = rw is fails

-- Requests decided entry by entry, as a loop does.
use Rattle.std.proofs.Common.{◌≡◌, ◌∙◌, ℕ, ◌+◌, ◌≤◌, ◌<◌, List, ◌∷◌, length, get_or, drop, Result, Ok, Err, refl, sym, add-one}
use Rattle.std.proofs.lemmas.Bool.{eq-eqb, ne_eqb}
use Rattle.std.proofs.lemmas.List.{drop_all}
use Rattle.std.proofs.Math.Seq.{drop-cons}
use Rattle.acl_nfs4.specs.Ace.{Nfsace4}
use Rattle.acl_nfs4.specs.declared.who.Who.{Who}
use Rattle.std.specs.Prelude.{Bool}
use Rattle.acl_wire.specs.Decision.{value_of}
use Rattle.acl_wire.specs.DecisionSteps.{goes_on, with_ace}
use Rattle.acl_wire.specs.declared.decision.Found.{Found}
use Rattle.acl_wire.specs.declared.fault.Nfs4Fault.{Nfs4Fault}
use Rattle.acl_wire.specs.declared.raw_ace.RawAce.{RawAce}
use Rattle.acl_wire.proofs.AcesLoop.{nothing}

module _ (applies : Who → Bool) (before : Found) (raws : List RawAce) (i : ℕ) (total : Result Found Nfs4Fault) (so_far : goes_on applies before (drop i raws) ≡ total) where
  -- the entries are done
  pub found_all : length raws ≤ i → Ok before ≡ total
  unfolding goes_on
  found_all done =
      let here : goes_on applies before (drop i raws) ≡ Ok before = rw (drop_all i raws done) refl in
      sym here ∙ so_far

  module _ (more : i < length raws) where
    cut : drop i raws ≡ get_or raws i nothing ∷ drop (i + 1) raws
    cut = rw add-one (drop-cons raws i nothing more)

    -- nothing is open
    pub found_enough : before.left ≡ 0 → Ok before ≡ total
    unfolding goes_on
    found_enough none =
        let here : goes_on applies before (drop i raws) ≡ Ok before = rw (cut, eq-eqb before.left 0 none) refl in
        sym here ∙ so_far

    -- something is open, and the next entry is read
    module _ (some : before.left ≡ 0 → ⊥) where
      pub goes_on-next : (ace : Nfsace4) → value_of (get_or raws i nothing) ≡ Ok ace → goes_on applies (with_ace applies before ace) (drop (i + 1) raws) ≡ total
      unfolding goes_on
      goes_on-next ace is =
          let here : goes_on applies before (drop i raws) ≡ goes_on applies (with_ace applies before ace) (drop (i + 1) raws) = rw (cut, ne_eqb before.left 0 some, is) refl in
          sym here ∙ so_far

      pub goes_on-ends : (fault : Nfs4Fault) → value_of (get_or raws i nothing) ≡ Err fault → Err fault ≡ total
      unfolding goes_on
      goes_on-ends fault is =
          let here : goes_on applies before (drop i raws) ≡ Err fault = rw (cut, ne_eqb before.left 0 some, is) refl in
          sym here ∙ so_far

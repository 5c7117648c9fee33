use Rattle.std.proofs.Common.{inl, subst, sym}
use Rattle.acl_listing_reach.specs.KnownSteps.{IsGrownBy}
use Rattle.acl_listing_reach.proofs.KnownLemmas.{grown_if}
use Rattle.acl_listing_reach.proofs.known.place_for.Goals as goal
use Rattle.acl_listing_reach.proofs.known.place_for.Goals.{in-Err, in-Ok}

pub returns-clause-grown : goal.returns-clause-grown
returns-clause-grown c =
    let letters = c.args.letters.now in
    let old = c.args.known.now.keys in
    elim c.match-insert_full.branch [
      | in-Ok w ↦ subst (IsGrownBy letters old) (sym w.in-Ok.ensures.keys) (grown_if _ old c.in_ok-from_slice.field-0 letters c.in_ok-from_slice.ensures.items)
      | in-Err w ↦ inl w.in-Err.ensures.err
    ]

use Rattle.std.proofs.Common.{◌≡◌, ◌↔◌, subst, List, None, ℕ}
use Rattle.acl_nfs4.specs.Ace.{Nfsace4}
use Rattle.acl_nfs4.specs.Comparison.{AlikeFor, DecideAlike, IsDifference, OfEachAsker, decided_at}
use Rattle.acl_nfs4.specs.Mask.{mask_bits}
use Rattle.acl_nfs4.proofs.AllowedBits.{none_exactly, difference_reports}
use Rattle.acl_nfs4.proofs.ComparisonLemmas.{pairs_suffice}
use Rattle.acl_nfs4.proofs.acl.Acl4.difference.Goals as goal

pub returns-clause-none : goal.returns-clause-none
returns-clause-none c =
    let first : List Nfsace4 = c.aces-first.result.now in
    let second : List Nfsace4 = c.aces-second.result.now in
    let owners = c.args.owners.now in
    let other_owners = c.args.other_owners.now in
    let bits : ℕ = mask_bits c.args.bits in
    let found = c.difference_by_pairs.result in
    subst (λ (xs : List Nfsace4). (found ≡ None) ↔ DecideAlike (decided_at xs owners) (decided_at c.args.other.now other_owners) bits) c.aces-first.ensures.value
    (subst (λ (ys : List Nfsace4). (found ≡ None) ↔ DecideAlike (decided_at first owners) (decided_at ys other_owners) bits) c.aces-second.ensures.value
    (none_exactly found
    (OfEachAsker (λ (ace : Nfsace4). ace.who) first second owners other_owners (AlikeFor first second owners other_owners bits))
    (DecideAlike (decided_at first owners) (decided_at second other_owners) bits)
    (IsDifference (decided_at first owners) (decided_at second other_owners) bits) c.difference_by_pairs.ensures
    (pairs_suffice first second owners other_owners bits)
    (difference_reports (decided_at first owners) (decided_at second other_owners) bits)))

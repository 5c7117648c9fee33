use Rattle.std.proofs.Common.{subst, List}
use Rattle.acl_posix.specs.Entry.{EntryValue}
use Rattle.acl_posix.specs.Perms.{bits_of}
use Rattle.acl_nfs4.specs.Comparison.{OfEachAsker}
use Rattle.acl_nfs4.specs.Who.{who_of}
use Rattle.acl_nfs4.proofs.AllowedBits.{none_exactly}
use Rattle.acl_bridge.specs.Comparison.{GrantAlike, Granter, grants_at}
use Rattle.acl_bridge.proofs.ComparisonPairs.{pairs_suffice_posix, unlike_reports}
use Rattle.acl_bridge.proofs.requests.request_difference.Goals as goal

pub returns-clause-none : goal.returns-clause-none
returns-clause-none c =
    let first : List EntryValue = c.args.first.now in
    let second : List EntryValue = c.args.second.now in
    let owners = c.args.owners.now in
    let other_owners = c.args.other_owners.now in
    let before : Granter = grants_at first owners in
    let after : Granter = grants_at second other_owners in
    let request = bits_of c.args.request in
    none_exactly c.difference_by_pairs.result _ _ _ c.difference_by_pairs.ensures
    (λ asked. pairs_suffice_posix first second c.entries.ensures.acl.valid c.entries-2.ensures.acl.valid owners other_owners request
    (subst (λ (xs : List EntryValue). OfEachAsker (λ (entry : EntryValue). who_of entry.tag) xs second owners other_owners (GrantAlike before after request)) c.entries.ensures.value
    (subst (λ (ys : List EntryValue). OfEachAsker (λ (entry : EntryValue). who_of entry.tag)
    c.entries.result.now ys owners other_owners (GrantAlike before after request))
    c.entries-2.ensures.value asked)))
    (unlike_reports before after request)

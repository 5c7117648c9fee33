use Rattle.std.proofs.Common.{◌≡◌, Ok, rules, subst, ℕ}
use Rattle.acl_posix.specs.Entry.{EntryValue}
use Rattle.acl_wire.specs.Compare.{AreUnlike, Pair, lists_compared}
use Rattle.acl_wire.proofs.compare.xattr_difference.Goals as goal

pub returns-clause-value : goal.returns-clause-value
unfolding lists_compared
returns-clause-value c =
    let pair : Pair EntryValue = record { first = c.in_ok-first.first; owners = c.in_ok-owners.owners; second = c.in_ok-second.second; others = c.in_ok-others.others } in
    let is : lists_compared c.args.first.now c.args.owner c.args.group c.args.second.now c.args.other_owner c.args.other_group c.args.request ≡ Ok pair = search rules in
    let unlike = subst (λ (request : ℕ). AreUnlike pair.first pair.owners pair.second pair.others request c.unlike.result) (c.from_bits_retain-request.ensures tt) c.unlike.ensures in
    (pair, is, unlike)

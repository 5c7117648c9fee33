use Rattle.std.proofs.Common.{◌≡◌, Ok, rules, sym}
use Rattle.acl_nfs4.specs.Ace.{Nfsace4}
use Rattle.acl_wire.specs.Compare.{Pair, aces_compared, compared_of}
use Rattle.acl_wire.proofs.ValuesLemmas.{compared-value, faultless}
use Rattle.acl_wire.proofs.compare.raws_difference.Goals as goal

pub returns : goal.returns
unfolding aces_compared
returns c =
    let one = faultless (compared_of c.args.first.now) (sym c.in_default.ensures.fault) in
    let two = faultless (compared_of c.args.second.now) (sym c.in_default-not_compared.ensures.fault) in
    let pair : Pair Nfsace4 = record { first = one.0; owners = c.in_ok-owners.owners; second = two.0; others = c.in_ok-others.others } in
    let first : compared_of c.args.first.now ≡ Ok one.0 = one.1 in
    let second : compared_of c.args.second.now ≡ Ok two.0 = two.1 in
    let is : aces_compared c.args.first.now c.args.owner c.args.group c.args.second.now c.args.other_owner c.args.other_group c.args.bits ≡ Ok pair = search rules in
    (pair, is, c.difference.ensures one.0 two.0 (compared-value c.args.first.now one.0 first) (compared-value c.args.second.now two.0 second))

use Rattle.std.proofs.Common.{◌≡◌, ◌∙◌, ◌-◌, ap, arith, rules, take, drop, length, nat_cmp, bytes_eq, is_lt}
use Rattle.std.specs.Cmp.Lexicographic.{slice_cmp}
use Rattle.std.proofs.lemmas.Cmp.{nat_list_cmp_total}
use Rattle.std.proofs.lemmas.List.{length-drop, take_all}
use Rattle.std.proofs.lemmas.Fn.{always_returns_same}
use Rattle.std.proofs.lemmas.List.Sorted.{searchable_from_sorted}
use Rattle.acl_accounts.specs.declared.memberships.Membership.{Membership}
use Rattle.acl_accounts.proofs.RangeLemmas.{lows, sames, still_up, still_high, in_range}
use Rattle.acl_accounts.proofs.memberships.memberships_with.Goals as goal

pub returns : goal.returns
returns c =
    let members = c.args.memberships.now in
    let q = c.args.name.now in
    let from = c.partition_point-from.result in
    let name_of = λ (member : Membership). member.name.now in
    let up = searchable_from_sorted nat_list_cmp_total name_of members q c.requires in
    let low = c.partition_point-from.ensures.partitioned (λ (y : Membership). is_lt (slice_cmp nat_cmp y.name.now q)) (always_returns_same _ _ _ (λ a r k called. search rules)) (lows name_of q members up) in
    let whole : take (length members - from) (drop from members) ≡ drop from members = take_all (length members - from) (drop from members) (omega (arith, length-drop from members)) in
    let parted = rw whole at c.partition_point-count.ensures.partitioned in
    let middle = parted (λ (y : Membership). bytes_eq y.name.now q) (always_returns_same _ _ _ (λ a r k called. search rules)) (sames name_of q (drop from members) (still_up name_of q members from up) (still_high name_of q members from low)) in
    ap (take c.partition_point-count.result) whole ∙ in_range name_of q members from c.partition_point-count.result low middle

use Rattle.std.proofs.Common.{rules, is_lt, nat_cmp}
use Rattle.std.specs.Cmp.Lexicographic.{slice_cmp}
use Rattle.std.proofs.lemmas.Cmp.{nat_list_cmp_total}
use Rattle.std.proofs.lemmas.List.Sorted.{answers_always, ranks_by}
use Rattle.acl_accounts.proofs.SortLemmas.{filter_stays, on_ok}
use Rattle.acl_accounts.proofs.named.sort_by_name.Goals as goal

pub returns-clause-sorted : goal.returns-clause-sorted
returns-clause-sorted g c =
    let name_of = g.T.Named.name_of in
    let below = λ (x y : g.row.T.Denot). is_lt (slice_cmp nat_cmp (name_of x) (name_of y)) in
    on_ok c.sort_by.result c.sort_by.ensures.sorted (λ sorted. sorted below (ranks_by nat_list_cmp_total name_of) (answers_always _ _ _ (λ f a r q called. search rules)))

pub returns-clause-kept : goal.returns-clause-kept
returns-clause-kept g c =
    let name_of = g.T.Named.name_of in
    let below = λ (x y : g.row.T.Denot). is_lt (slice_cmp nat_cmp (name_of x) (name_of y)) in
    let stable = c.sort_by.ensures.stable below (ranks_by nat_list_cmp_total name_of) (answers_always _ _ _ (λ f a r q called. search rules)) in
    filter_stays name_of c.args.members.now.items c.sort_by.new.self.items c.sort_by.ensures.permutation stable

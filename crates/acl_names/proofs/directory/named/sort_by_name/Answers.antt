use Rattle.std.proofs.Common.{◌∙◌, sym, ap, not, rules, is_lt, nat_cmp, bytes_eq}
use Rattle.std.specs.Cmp.Lexicographic.{slice_cmp}
use Rattle.std.proofs.lemmas.Cmp.{nat_list_cmp_total}
use Rattle.std.proofs.lemmas.List.Sorted.{answers_always, ranks_by}
use Rattle.acl_names.proofs.AscendingLemmas.{ascending_from_answer, distinct_from_answer, repeats-permutation}
use Rattle.acl_names.proofs.Keys.{same_name}
use Rattle.acl_names.proofs.directory.named.sort_by_name.Goals as goal

pub returns-clause-distinct : goal.returns-clause-distinct
returns-clause-distinct g c =
    let name_of = g.T.Named.name_of in
    let below = λ (x y : g.row.T.Denot). is_lt (slice_cmp nat_cmp (name_of x) (name_of y)) in
    let sorted = c.sort_unstable_by.ensures.sorted below (ranks_by nat_list_cmp_total name_of) (answers_always _ _ _ (λ f a r q called. search rules)) in
    let answer = rw c.as_slice.ensures.value at c.is_sorted_by.ensures.cases below (answers_always _ _ _ (λ f a r q called. search rules)) in
    distinct_from_answer (slice_cmp nat_cmp) nat_list_cmp_total name_of bytes_eq same_name c.sort_unstable_by.new.self.items c.is_sorted_by.result sorted answer
    ∙ ap not (sym (repeats-permutation (slice_cmp nat_cmp) nat_list_cmp_total name_of bytes_eq same_name
    c.args.members.now.items c.sort_unstable_by.new.self.items c.sort_unstable_by.ensures.permutation))

pub returns-clause-ascending : goal.returns-clause-ascending
returns-clause-ascending g c =
    let name_of = g.T.Named.name_of in
    let below = λ (x y : g.row.T.Denot). is_lt (slice_cmp nat_cmp (name_of x) (name_of y)) in
    let answer = rw c.as_slice.ensures.value at c.is_sorted_by.ensures.cases below (answers_always _ _ _ (λ f a r q called. search rules)) in
    (ascending_from_answer (slice_cmp nat_cmp) nat_list_cmp_total name_of c.sort_unstable_by.new.self.items c.is_sorted_by.result answer).0

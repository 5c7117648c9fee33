use Rattle.std.proofs.Common.{◌∙◌, sym, ap, not, nat_eq, rules, is_lt, nat_cmp}
use Rattle.std.proofs.lemmas.Cmp.{nat_cmp_total}
use Rattle.std.proofs.lemmas.List.Sorted.{answers_always}
use Rattle.acl_names.proofs.AscendingLemmas.{distinct_from_answer, repeats-permutation}
use Rattle.acl_names.proofs.Keys.{same_id}
use Rattle.acl_names.proofs.directory.named.sort_by_id.Goals as goal

pub returns-clause-distinct : goal.returns-clause-distinct
returns-clause-distinct g c =
    let id_of = g.T.Named.id_of in
    let sorted = c.sort_unstable_by_key.ensures.sorted id_of (answers_always _ _ _ (λ f a r q called. search rules)) in
    let answer = rw c.as_slice.ensures.value at c.is_sorted_by.ensures.cases (λ x y. is_lt (nat_cmp (id_of x) (id_of y))) (answers_always _ _ _ (λ f a r q called. search rules)) in
    distinct_from_answer nat_cmp nat_cmp_total id_of nat_eq same_id c.sort_unstable_by_key.new.self.items c.is_sorted_by.result sorted answer
    ∙ ap not (sym (repeats-permutation nat_cmp nat_cmp_total id_of nat_eq same_id c.args.members.now.items c.sort_unstable_by_key.new.self.items c.sort_unstable_by_key.ensures.permutation))

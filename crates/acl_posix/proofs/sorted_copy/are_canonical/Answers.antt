use Rattle.std.proofs.Common.{rules}
use Rattle.std.specs.Ordering.{is_lt}
use Rattle.std.proofs.lemmas.List.Sorted.{answers_always}
use Rattle.acl_names.proofs.AscendingLemmas.{ascending_from_answer}
use Rattle.acl_posix.specs.Canonical.{tag_cmp, tag_of}
use Rattle.acl_posix.proofs.CanonicalLemmas.{tag_cmp_total}
use Rattle.acl_posix.proofs.sorted_copy.are_canonical.Goals as goal

pub returns : goal.returns
returns c =
    let answer = c.is_sorted_by.ensures.cases (λ a b. is_lt (tag_cmp a.tag b.tag)) (answers_always _ _ _ (λ f a r g called. search rules)) in
    ascending_from_answer tag_cmp tag_cmp_total tag_of c.args.entries.now c.is_sorted_by.result answer

use Rattle.std.proofs.Common.{ap, not, rules, sym}
use Rattle.std.proofs.lemmas.List.Sorted.{answers_always}
use Rattle.acl_names.proofs.AscendingLemmas.{distinct_from_ascending, repeats-ascending}
use Rattle.acl_posix.specs.Canonical.{tag_cmp, tag_of}
use Rattle.acl_posix.specs.Entry.{same_tag}
use Rattle.acl_posix.proofs.CanonicalLemmas.{same_tag-tag_cmp, sorted_by_tag, tag_cmp_total}
use Rattle.acl_posix.proofs.acl.in_place.sort.Goals as goal

pub returns-then-are_canonical-clause-distinct : goal.returns-then-are_canonical-clause-distinct
returns-then-are_canonical-clause-distinct c =
    sym (ap not (repeats-ascending tag_cmp tag_cmp_total tag_of same_tag same_tag-tag_cmp c.args.entries.now (c.are_canonical.ensures.0 c.if-are_canonical.true)))

pub returns-clause-distinct : goal.returns-clause-distinct
returns-clause-distinct c =
    let sorted = c.sort_unstable_by_key.new.self in
    let derived = c.sort_unstable_by_key.ensures.sorted (λ entry. entry.tag) (answers_always _ _ _ (λ f a r g called. search rules)) in
    distinct_from_ascending tag_cmp tag_cmp_total tag_of same_tag same_tag-tag_cmp sorted c.are_canonical-2.result (sorted_by_tag sorted derived) c.are_canonical-2.ensures

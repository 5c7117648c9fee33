use Rattle.std.proofs.Common.{◌≤◌, ◌∙◌, ◌+◌, ◌++◌, sym, ap, drop, List, length, arith}
use Rattle.std.specs.List.{cons_option}
use Rattle.acl_nfs4.specs.declared.limits.TheConstants.{MAX_ACES}
use Rattle.acl_nfs4.specs.Ace.{Nfsace4}
use Rattle.acl_nfs4.specs.Inheritance.{inherited_entry, inherited_list}
use Rattle.acl_nfs4.proofs.ListLemmas.{drop-here, shorter, length-filter_map}
use Rattle.acl_nfs4.proofs.acl.Acl4.inherited.Goals as goal

pub push_within-requires : goal.push_within-requires
push_within-requires c =
    let whole : List Nfsace4 = c.aces-ace-items.result.now in
    let rest : List Nfsace4 = inherited_list c.args.kind (drop (c.loop-ace.ace-index + 1) whole) in
    let ahead = shorter c.loop-ace.draft c.in-Some.below rest (inherited_list c.args.kind whole)
    (ap (λ (xs : List Nfsace4). c.loop-ace.draft ++ xs)
    (ap (λ o. cons_option o rest) c.in-Some.ensures.value
    ∙ sym (ap (inherited_list c.args.kind) (drop-here whole c.loop-ace.ace-index c.ace-item.result c.loop-ace-test.true c.ace-item.is)))
    ∙ c.loop-ace.invariant) in
    let short : length (inherited_list c.args.kind whole) ≤ length whole = length-filter_map (inherited_entry c.args.kind) whole in
    let limit : length whole ≤ MAX_ACES = (rw c.aces-ace-items.ensures.value c.aces-ace-items.ensures.aces.within) in
    (omega arith, (omega arith, c.in-Some.ensures.effective))

use Rattle.std.proofs.Common.{◌≡◌, ◌∙◌, ◌==◌, ◌≤◌, Bool, true, false, List, length, subst, sym, rules}
use Rattle.std.specs.List.Sorted.{IsPartitionedBy, IsPartitionPoint, IsPermutation, IsSortedByKey}
use Rattle.std.proofs.lemmas.Fn.{always_returns_same}
use Rattle.acl_posix.specs.Canonical.{tag_cmp, tag_of}
use Rattle.acl_posix.specs.Entry.{EntryValue}
use Rattle.acl_posix.proofs.CopyLemmas.{copy_is}
use Rattle.acl_posix.proofs.InOrderLemmas.{precedes}
use Rattle.acl_posix.proofs.InsertLemmas.{copy_with, parted}
use Rattle.acl_posix.proofs.sorted_copy.keep_sorted.Goals as goal
use Rattle.acl_posix.proofs.sorted_copy.keep_sorted.Goals.{then-is_empty+else-stays_in_order+in_ok-copy, else-is_empty}

pub returns-clause-ok : goal.returns-clause-ok
returns-clause-ok c =
    let entries = c.args.entries.now in
    let copy = c.if-is_empty.copy.items in
    let is : IsPermutation entries copy × IsSortedByKey tag_of tag_cmp copy = elim c.if-is_empty.branch [
      | then-is_empty+else-stays_in_order+in_ok-copy w ↦ rw w.copy-is w.in_ok-copy.ensures
      | else-is_empty w ↦
          let some : (length c.args.copy.now.items == 0) ≡ false = rw c.as_slice.ensures.value at (sym c.is_empty.ensures ∙ w.if-is_empty.false) in
          rw w.copy-is (copy_is entries c.args.copy.now.items c.requires.copy some)
    ] in
    let place = c.partition_point-place.result in
    let before : EntryValue → Bool = λ other. precedes other c.args.entry in
    let same : c.as_slice-2.result.now ≡ copy = c.as_slice-2.ensures.value in
    let halves = subst (λ (others : List EntryValue). IsPartitionedBy before others) (sym same) (parted c.args.entry copy is.1) in
    let point = c.partition_point-place.ensures.partitioned before (always_returns_same _ _ _ (λ a r f called. search rules)) halves in
    let inside = subst (λ (others : List EntryValue). place ≤ length others) same c.partition_point-place.ensures.bound in
    rw c.in_ok-insert.ensures.items (copy_with c.args.entry entries copy place is.0 is.1 inside
    (subst (λ (others : List EntryValue). IsPartitionPoint (λ other. before other ≡ true) (λ other. before other ≡ false) others place) same point))

use Rattle.std.proofs.Common.{◌≡◌, length, arith, ap}
use Rattle.acl_posix.specs.Mode.{at_creation}
use Rattle.acl_posix.proofs.ModeLemmas.{IsAcl-at_creation}
use Rattle.acl_posix.proofs.FoundLemmas.{take-whole}
use Rattle.acl_posix.proofs.acl.Acl.at_creation.Goals as goal

pub invariant_of-result : goal.invariant_of-result
invariant_of-result c =
    let made = IsAcl-at_creation c.args.default.now c.args.mode (rw c.default.view_is at c.default.invariant) in
    let is : c.limit_all.new.entries ≡ at_creation c.args.default.now c.args.mode =
    rw (c.group_class_tag-group_class.ensures, c.as_mut_slice.ensures.value, c.in_ok-sorted.ensures.ok, c.as_slice.ensures, c.default.view_is) at c.limit_all.ensures in
    let size : length c.in_ok-sorted.sorted.items ≡ length c.limit_all.new.entries = omega (arith, ap length c.as_mut_slice.ensures.value) in
    rw (take-whole _ c.limit_all.new.entries _ size, is) made

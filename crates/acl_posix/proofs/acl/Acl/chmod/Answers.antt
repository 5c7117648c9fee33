use Rattle.std.proofs.Common.{◌≡◌, length, arith, ap}
use Rattle.acl_posix.specs.Mode.{chmod}
use Rattle.acl_posix.proofs.ModeLemmas.{IsAcl-chmod}
use Rattle.acl_posix.proofs.FoundLemmas.{take-whole}
use Rattle.acl_posix.proofs.acl.Acl.chmod.Goals as goal

pub invariant_of-self : goal.invariant_of-self
invariant_of-self c =
    let made = IsAcl-chmod c.args.self.now c.args.mode (rw c.mode.view_is at c.mode.invariant) (rw c.self.view_is at c.self.invariant) in
    let is : c.set_all.new.entries ≡ chmod c.args.self.now c.args.mode =
    rw (c.group_class_tag-group_class.ensures, c.as_mut_slice.ensures.value, c.self.view_is) at c.set_all.ensures in
    let size : length c.self.inside.sorted.items ≡ length c.set_all.new.entries = omega (arith, ap length c.as_mut_slice.ensures.value) in
    rw (take-whole _ c.set_all.new.entries _ size, is) made

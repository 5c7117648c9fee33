use Rattle.std.proofs.Common.{◌∙◌, ap, Some, arith}
use Rattle.acl_forms.proofs.MarkLemmas.{flags-small}
use Rattle.acl_forms.proofs.marks.read_flags.Goals as goal

pub overflow_cast-bits : goal.overflow_cast-bits
overflow_cast-bits c = let small = flags-small c.args.text.now c.in-Some.bits c.in-Some.ensures in omega arith

pub returns-in-Some : goal.returns-in-Some
returns-in-Some c = ap Some (c.from_bits_retain.ensures tt) ∙ c.in-Some.ensures

use Rattle.std.proofs.Common.{◌==◌}
use Rattle.acl_names.proofs.Cutting.{position-from_next}
use Rattle.acl_names.proofs.text.parts.position_of.Goals as goal

pub returns : goal.returns
returns c = position-from_next (λ x. x == c.args.byte) c.args.text.now c.memchr_iter.result c.next.new.self c.next.result c.memchr_iter.ensures.value c.next.ensures.steps

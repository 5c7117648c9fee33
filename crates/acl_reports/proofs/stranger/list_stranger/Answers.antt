use Rattle.std.proofs.Common.{rules, arith, ap, length}
use Rattle.acl_names.specs.Bytes.{newline}
use Rattle.acl_names.proofs.Cutting.{parts-few}
use Rattle.acl_reports.proofs.stranger.list_stranger.Goals as goal

pub overflow_add-before : goal.overflow_add-before
overflow_add-before c = omega (arith, c.loop-line.invariant.count, parts-few newline c.args.list.now)

pub loop-line-preserved : goal.loop-line-preserved
loop-line-preserved c = record {
  rest = search rules;
  count = omega (arith, c.loop-line.invariant.count, ap length c.in-Some.ensures.part);
}

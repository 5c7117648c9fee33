use Rattle.std.proofs.Common.{arith, sym}
use Rattle.std.proofs.lemmas.List.{length-take-le, take_all}
use Rattle.acl_names.specs.declared.limits.TheConstants.{MAX_SHOWN}
use Rattle.acl_names.proofs.text.shown.shown_front.Goals as goal

pub slice_bounds-result-end : goal.slice_bounds-result-end
slice_bounds-result-end c = sym (length-take-le MAX_SHOWN c.args.line.now (omega (arith, c.if-line-gt-MAX_SHOWN.true)))

pub returns-else-line-gt-MAX_SHOWN : goal.returns-else-line-gt-MAX_SHOWN
returns-else-line-gt-MAX_SHOWN c = sym (take_all MAX_SHOWN c.args.line.now (omega (arith, c.if-line-gt-MAX_SHOWN.false)))

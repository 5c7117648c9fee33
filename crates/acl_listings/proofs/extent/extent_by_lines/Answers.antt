use Rattle.std.proofs.Common.{◌+◌, ◌∙◌, ap}
use Rattle.std.specs.List.{before_first}
use Rattle.std.proofs.lemmas.List.{take_rest}
use Rattle.acl_listings.proofs.ExtentLemmas.{extent_ends, first_line_are, is_newline, next_line}
use Rattle.acl_listings.proofs.extent.extent_by_lines.Goals as goal

pub loop-len-init : goal.loop-len-init
loop-len-init c = record { lines = first_line_are c.args.text.now c.before_byte-len.result.now c.before_byte-len.ensures c.requires }

pub loop-len-preserved : goal.loop-len-preserved
loop-len-preserved c = record {
  lines = next_line c.args.text.now c.loop-len.len c.loop-len.newlines c.loop-len.invariant.lines c.loop-len-test.true c.before_byte.result.now
      (c.before_byte.ensures ∙ ap (before_first is_newline) (take_rest c.args.text.now (c.loop-len.len + 1))) c.if-text-len-ne10.true;
}

pub returns-else-text-len-ne10 : goal.returns-else-text-len-ne10
returns-else-text-len-ne10 c = extent_ends c.args.text.now c.loop-len.len c.loop-len.newlines c.loop-len.invariant.lines (λ _. c.if-text-len-ne10.false)

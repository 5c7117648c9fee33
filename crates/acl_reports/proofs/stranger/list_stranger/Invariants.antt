use Rattle.std.proofs.Common.{◌≡◌, ◌+◌, length}
use Rattle.acl_names.specs.Bytes.{newline}
use Rattle.acl_names.specs.Pieces.{parts}
use Rattle.acl_reports.specs.Strangers.{list_stranger}
use Rattle.acl_reports.proofs.stranger.list_stranger.Given as goal

-- the lines that are still to come decide
abbrev pub invariant-loop-line : goal.invariant-loop-line
invariant-loop-line l = record {
  rest : list_stranger l.host l.form l.before l.lines ≡ list_stranger l.host l.form 3 (parts newline l.list);
  count : l.before + length l.lines ≡ 3 + length (parts newline l.list);
}

abbrev pub decreases-loop-line : goal.decreases-loop-line
decreases-loop-line l = length l.lines

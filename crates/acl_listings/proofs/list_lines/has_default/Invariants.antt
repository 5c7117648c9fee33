use Rattle.std.proofs.Common.{◌≡◌, length}
use Rattle.std.specs.List.{list_any}
use Rattle.acl_names.specs.Bytes.{newline}
use Rattle.acl_names.specs.Pieces.{parts}
use Rattle.acl_listings.specs.ListLines.{is_default}
use Rattle.acl_listings.proofs.list_lines.has_default.Given as goal

-- no line so far is one
abbrev pub invariant-loop-line : goal.invariant-loop-line
invariant-loop-line l = list_any is_default l.lines ≡ list_any is_default (parts newline l.list)

abbrev pub decreases-loop-line : goal.decreases-loop-line
decreases-loop-line l = length l.lines

use Rattle.std.proofs.Common.{◌≡◌, ◌++◌, length}
use Rattle.acl_names.specs.Bytes.{newline}
use Rattle.acl_names.specs.Pieces.{parts}
use Rattle.acl_listings.proofs.AccessLemmas.{copied}
use Rattle.acl_listings.proofs.list_lines.lines_of.Given as goal

-- what was copied of the lines so far, and what is still to come
abbrev pub invariant-loop-line : goal.invariant-loop-line
invariant-loop-line l = l.copy.items ++ copied l.kind l.lines ≡ copied l.kind (parts newline l.list)

abbrev pub decreases-loop-line : goal.decreases-loop-line
decreases-loop-line l = length l.lines

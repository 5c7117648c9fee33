use Rattle.std.proofs.Common.{◌≡◌, ◌++◌, map, length, flat_map}
use Rattle.acl_names.specs.Pieces.{content, pieces_of_content, trim}
use Rattle.acl_names.proofs.text.pieces.Pieces.next.Given as goal

abbrev pub invariant-loop-part : goal.invariant-loop-part
invariant-loop-part l = map trim l.self-inside.line ++ flat_map (λ line. pieces_of_content (content line)) l.self-inside.lines ≡ l.fn.self

abbrev pub decreases-loop-part : goal.decreases-loop-part
decreases-loop-part l = length l.self-inside.lines

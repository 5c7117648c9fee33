use Rattle.std.proofs.Common.{◌≡◌, ◌++◌, ◌+◌, List, ℕ, length}
use Rattle.acl_names.specs.Pieces.{pieces}
use Rattle.acl_listing_lint.specs.Findings.{AreFoundFrom, IsFoundOfAcePiece}
use Rattle.acl_listing_lint.specs.LintSteps.{view_aces}
use Rattle.acl_listing_lint.proofs.aces.push_ace_line.Given as goal

-- what was appended so far, and what is found of the pieces left, are what is found of all
abbrev pub invariant-loop-piece : goal.invariant-loop-piece
invariant-loop-piece l = record {
  so_far : List ℕ;
  out_is : l.out.items ≡ l.fn.out.items ++ so_far;
  leads : (rest : List ℕ) → AreFoundFrom (IsFoundOfAcePiece l.name (view_aces l.listed) l.line) l.at l.pieces rest
      → AreFoundFrom (IsFoundOfAcePiece l.name (view_aces l.listed) l.line) l.place (pieces l.said) (so_far ++ rest);
  count : l.at + length l.pieces ≡ l.place + length (pieces l.said);
}

abbrev pub decreases-loop-piece : goal.decreases-loop-piece
decreases-loop-piece l = length l.pieces

use Rattle.std.proofs.Common.{◌≡◌, ◌++◌, List, ℕ, length}
use Rattle.acl_names.specs.Pieces.{pieces}
use Rattle.acl_listing_lint.specs.Findings.{AreFound, IsFoundOfPiece}
use Rattle.acl_listing_lint.specs.LintSteps.{view_list}
use Rattle.acl_listing_lint.proofs.entries.push_said.Given as goal

-- what was appended so far, and what is found of the pieces left, are what is found of all
abbrev pub invariant-loop-piece : goal.invariant-loop-piece
invariant-loop-piece l = record {
  so_far : List ℕ;
  out_is : l.out.items ≡ l.fn.out.items ++ so_far;
  leads : (rest : List ℕ) → AreFound (IsFoundOfPiece (record { name = l.name; host = l.host }) (view_list l.listed) l.line) l.pieces rest
      → AreFound (IsFoundOfPiece (record { name = l.name; host = l.host }) (view_list l.listed) l.line) (pieces l.said) (so_far ++ rest);
}

abbrev pub decreases-loop-piece : goal.decreases-loop-piece
decreases-loop-piece l = length l.pieces

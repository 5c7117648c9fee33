use Rattle.std.proofs.Common.{◌≡◌, ◌++◌, List, ℕ, length}
use Rattle.acl_names.specs.Bytes.{newline}
use Rattle.acl_names.specs.Pieces.{parts}
use Rattle.acl_listing_lint.specs.Findings.{AreFoundFrom, IsFoundInLine}
use Rattle.acl_listing_lint.specs.LintSteps.{view_lists}
use Rattle.acl_listing_lint.proofs.entries.push_lines.Given as goal

-- what was appended so far, and what is found in the lines left, are what is found in all
abbrev pub invariant-loop-line : goal.invariant-loop-line
invariant-loop-line l = record {
  so_far : List ℕ;
  out_is : l.out.items ≡ l.fn.out.items ++ so_far;
  leads : (rest : List ℕ) → AreFoundFrom (IsFoundInLine (record { name = l.name; host = l.host }) (view_lists l.listed)) l.number l.lines rest
      → AreFoundFrom (IsFoundInLine (record { name = l.name; host = l.host }) (view_lists l.listed)) l.first (parts newline l.list) (so_far ++ rest);
}

abbrev pub decreases-loop-line : goal.decreases-loop-line
decreases-loop-line l = length l.lines

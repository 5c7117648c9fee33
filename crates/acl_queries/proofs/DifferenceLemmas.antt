-- The text for what was found of two lists.
use Rattle.std.proofs.Common.{inl, inr, Option, Some, None, refl, MatchOption}
use Rattle.acl_nfs4.specs.declared.comparison.Difference.{Difference}
use Rattle.acl_queries.specs.Compared.{Compared}
use Rattle.acl_queries.specs.Differences.{AreAlike, Differ, IsComparison, comparison_text}

-- the text for what was found answers
pub answers_found : (compared : Compared) (found : Option Difference) → MatchOption found (AreAlike compared) (Differ compared)
    → IsComparison compared (comparison_text found)
answers_found compared None alike = inl (alike, refl)
answers_found compared (Some difference) differs = inr (difference, differs, refl)

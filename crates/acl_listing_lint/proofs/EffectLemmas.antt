-- What a comparison finds, as whether an entry has an effect.
use Rattle.std.proofs.Common.{List, ℕ, Some, None, inl, inr}
use Rattle.acl_access.proofs.ExclusiveLemmas.{changes_are_not_alike}
use Rattle.acl_access.proofs.FoundLemmas.{found}
use Rattle.acl_access.specs.Changes.{IsAlikeToAll, change_of}
use Rattle.acl_bridge.specs.Files.{File}
use Rattle.acl_bridge.specs.Lists.{Finds}
use Rattle.acl_names.specs.Asker.{identity_of}
use Rattle.acl_nfs4.specs.declared.comparison.Difference.{Difference}
use Rattle.acl_listing_lint.specs.Effects.{SaysExactly}
use Rattle.acl_listing_lint.specs.LintSteps.{Adds, IsSaidUnlessFound}

-- somebody is found whom files decide about otherwise
unlike_found : (before after : File) (difference : Difference) → Finds before after (Some difference) → IsAlikeToAll before after → ⊥
unlike_found before after difference finds alike =
    changes_are_not_alike before after (identity_of difference.asker) (change_of difference) (alike (identity_of difference.asker)) (found before after (Some difference) finds)

pub says_exactly : (before after : File) (line text : List ℕ) → IsSaidUnlessFound before after line text → SaysExactly (IsAlikeToAll before after) line text
says_exactly before after line text (None, finds, is) = inl (found before after None finds, is)
says_exactly before after line text (Some difference, finds, is) = inr (unlike_found before after difference finds, is)

-- and what was appended
pub adds_exactly : (before after : File) (line out out' : List ℕ) → Adds (IsSaidUnlessFound before after line) out out' → Adds (SaysExactly (IsAlikeToAll before after) line) out out'
adds_exactly before after line out out' added = record { text = added.text; is = says_exactly before after line added.text added.is; out_is = added.out_is }

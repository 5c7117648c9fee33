-- Lists that decide alike differ for nobody.
use Rattle.std.proofs.Common.{◌≡◌, ◌∙◌, inl, inr, ℕ, List, [], ◌∷◌, ◌||◌, ap, sym}
use Rattle.std.specs.List.{AllByRecursion}
use Rattle.acl_names.specs.Asker.{identity_of}
use Rattle.acl_names.specs.Bits.{has, ◌∪◌}
use Rattle.acl_names.proofs.BitSets.{has-or, no_bits}
use Rattle.acl_names.proofs.AnyLemmas.{not_one_alone}
use Rattle.acl_nfs4.specs.Comparison.{DecideAlike, Decider, IsDifference}
use Rattle.acl_nfs4.specs.Mask.{mask_bits}
use Rattle.acl_nfs4.specs.declared.comparison.Difference.{Difference}
use Rattle.acl_bridge.specs.Comparison.{GrantAlikeToAll, Granter, IsFirstDifference}
use Rattle.acl_bridge.specs.Files.{decider_of, may}
use Rattle.acl_bridge.specs.Lists.{bits_between, requests_between}
use Rattle.acl_queries.specs.Compared.{Compared}
use Rattle.acl_queries.specs.Differences.{AreAlike, Differ, first_file, second_file}

module _ (before after : Decider) (bits : ℕ) (alike : DecideAlike before after bits) where
  -- the asker of a difference loses and gains nothing
  nothing_reported : (difference : Difference) → IsDifference before after bits difference → mask_bits difference.lost ∪ mask_bits difference.gained ≡ 0
  nothing_reported difference is =
      let asker = identity_of difference.asker in
      no_bits (mask_bits difference.lost ∪ mask_bits difference.gained) (λ bit.
      has-or (mask_bits difference.lost) (mask_bits difference.gained) bit
      ∙ ap (λ lost. lost || has (mask_bits difference.gained) bit) (is.lost bit ∙ not_one_alone (has bits bit) (before asker bit) (after asker bit) (alike asker bit))
      ∙ is.gained bit ∙ not_one_alone (has bits bit) (after asker bit) (before asker bit) (λ asked. sym (alike asker bit asked)))

-- no request differs if each is granted alike
no_first_difference : (before after : Granter) (requests : List ℕ) (difference : Difference)
    → AllByRecursion (GrantAlikeToAll before after) requests → ¬ IsFirstDifference before after requests difference
no_first_difference before after [] difference alike never = never
no_first_difference before after (request ∷ more) difference (here, later) (inl differs) = differs.apart (here (identity_of difference.asker))
no_first_difference before after (request ∷ more) difference (here, later) (inr (same, differs)) = no_first_difference before after more difference later differs

-- lists that decide alike for every requester differ for nobody
pub differ_for_nobody : (compared : Compared) (difference : Difference) → AreAlike compared → ¬ Differ compared difference
differ_for_nobody compared difference (bits, requests) (inl is) =
    is.some (nothing_reported (decider_of (first_file compared)) (decider_of (second_file compared)) (bits_between compared.first compared.second) bits difference is)
differ_for_nobody compared difference (bits, requests) (inr (_, differs)) =
    no_first_difference (may (first_file compared)) (may (second_file compared)) (requests_between compared.first compared.second) difference requests differs

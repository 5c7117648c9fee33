-- The files that the words name.
use Rattle.std.proofs.Common.{◌≡◌, ◌∙◌, ◌∷◌, [], Contains, List, arith, inr, subst, sym}
use Rattle.std.proofs.lemmas.List.Elements.{Contains-append_right}
use Rattle.clap.specs.Words.{Row, Text}
use Rattle.acl_cli.specs.SessionFiles.{setup_in}
use Rattle.acl_cli.specs.Failures.{IsUnexplained}
use Rattle.acl_cli.specs.declared.failure.Failure.{Failure}
use Rattle.acl_cli.proofs.FailureLemmas.{IsUnexplained-as}
use Rattle.acl_tree_queries.specs.SetupTree.{sessions_in}
use Rattle.acl_tree_queries.specs.TreeMeaning.{IsNamesFailure}

-- what can't be read for one of the files can't be for the names
module _ (rows : List Row) where
  abbrev all_names_in : List Text
  all_names_in = setup_in rows ∷ sessions_in rows

  pub refused_for_setup : (name : Text) → name ≡ setup_in rows → (failure : Failure) → IsUnexplained (λ refused. refused ≡ name) failure → IsNamesFailure rows failure
  refused_for_setup name same failure is =
      inr (IsUnexplained-as (λ refused. refused ≡ name) (Contains all_names_in) (λ refused of_name. (0, omega arith, sym (of_name ∙ same))) failure is)

  pub refused_for_session : (names : List Text) → names ≡ sessions_in rows → (failure : Failure) → IsUnexplained (Contains names) failure → IsNamesFailure rows failure
  refused_for_session names same failure is =
      inr (IsUnexplained-as (Contains names) (Contains all_names_in) (λ refused among.
      Contains-append_right (setup_in rows ∷ []) (sessions_in rows) refused (subst (λ (those : List Text). Contains those refused) same among)) failure is)

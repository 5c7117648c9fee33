-- What files are refused for.
use Rattle.std.proofs.Common.{◌≡◌, ◌∷◌, [], List, arith, inr, sym}
use Rattle.std.specs.Prelude.{Contains}
use Rattle.std.proofs.lemmas.List.Elements.{Contains-append_right}
use Rattle.clap.specs.Words.{Text}
use Rattle.acl_cli.specs.Failures.{IsUnexplained}
use Rattle.acl_cli.specs.declared.failure.Failure.{Failure}
use Rattle.acl_cli.proofs.FailureLemmas.{IsUnexplained-as}
use Rattle.acl_service.specs.Files.{IsFilesFailure}
use Rattle.acl_service.specs.RunWords.{CanRun}

-- what is refused for the setup, or for one of the sessions, is refused for the files
module _ (setup : Text) (names : List Text) (can_run : CanRun names) (failure : Failure) where
  pub refused_for_setup : IsUnexplained (λ refused. refused ≡ setup) failure → IsFilesFailure setup names failure
  refused_for_setup is =
      inr (can_run, IsUnexplained-as (λ refused. refused ≡ setup) (Contains (setup ∷ names)) (λ name same. (0, omega arith, sym same)) failure is)

  pub refused_for_session : IsUnexplained (Contains names) failure → IsFilesFailure setup names failure
  refused_for_session is =
      inr (can_run, IsUnexplained-as (Contains names) (Contains (setup ∷ names)) (λ name among. Contains-append_right (setup ∷ []) names name among) failure is)

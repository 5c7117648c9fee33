-- Why files give no texts.
use Rattle.std.specs.Prelude.{◌≡◌, ◌<◌, ◌⊎◌, List, ◌∷◌, Contains, length}
use Rattle.clap.specs.Words.{Text}
use Rattle.acl_broker.specs.declared.limits.TheConstants.{SESSIONS}
use Rattle.acl_cli.specs.Failures.{IsUnexplained}
use Rattle.acl_cli.specs.SessionFiles.{input_count}
use Rattle.acl_cli.specs.declared.failure.Failure.{Failure}
use Rattle.acl_cli.specs.declared.failure.Failure.TheVariants.{Misuse}
use Rattle.acl_cli.specs.declared.misuse.Misuse.TheVariants.{InputTwice, TooManySessions}
use Rattle.acl_service.specs.RunWords.{CanRun}

-- the names are refused before anything is read
abbrev pub IsNamesFailure : List Text → Failure → Type 0
IsNamesFailure names failure =
    (failure ≡ Misuse TooManySessions) × ((length names ≡ 0) ⊎ (SESSIONS < length names))
    ⊎ (failure ≡ Misuse InputTwice) × (1 < input_count names)

-- a setup of this name and sessions of these are refused for this: for the names, or for one of
-- them that can't be read
abbrev pub IsFilesFailure : Text → List Text → Failure → Type 0
IsFilesFailure setup names failure = IsNamesFailure names failure
    ⊎ CanRun names × IsUnexplained (Contains (setup ∷ names)) failure

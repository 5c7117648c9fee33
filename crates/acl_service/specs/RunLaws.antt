-- What the exit status of `run` reports for its words.
use Rattle.std.specs.Prelude.{◌≡◌, ◌<◌, ◌≤◌, ◌⊎◌, ◌++◌, ℕ, List, Option, codes, decimal, length}
use Rattle.std.specs.Prelude.{false}
use Rattle.clap.specs.Words.{Text, matches_of}
use Rattle.acl_broker.specs.declared.limits.TheConstants.{SESSIONS}
use Rattle.acl_cli.specs.CommandLine.{Takes}
use Rattle.acl_cli.specs.Commands.{Ends, of_words}
use Rattle.acl_cli.specs.ErrorOutput.{ErrorText}
use Rattle.acl_service.specs.RunLine.{run_line}
use Rattle.acl_service.specs.RunMeaning.{run_meaning}
use Rattle.acl_service.specs.RunWords.{CanRun, sessions_in}
use Rattle.acl_cli.specs.SessionFiles.{input_count}

-- what is said of more sessions than there may be
abbrev pub too_many_sessions : List ℕ
too_many_sessions = codes "at most " ++ decimal SESSIONS ++ codes " sessions"

-- sessions of these names can't run together: there are none, or too many, or standard input is two
abbrev pub CannotRun : List Text → Type 0
CannotRun names = (length names ≡ 0) ⊎ ((SESSIONS < length names) ⊎ (1 < input_count names))

-- if `run` ended with outputs, or a file or the setup was refused, the words and the sessions that
-- they name were taken; and wrong usage is that of one of them
abbrev pub StatusesReportTheWords : Type 0
StatusesReportTheWords = (bytes_of : Text → Option (List ℕ)) (input : Option (List ℕ))
    (words : List Text) (status : ℕ) (out out' : Option (List ℕ)) (err err' : ErrorText)
    (stdin stdin' : Unit {0})
    → Ends (of_words run_line false (run_meaning bytes_of input) words) status out out' err err'
    stdin stdin'
    → (status ≤ 1 → Takes run_line words × CanRun (sessions_in (matches_of run_line words)))
    × (status ≡ 2 → (¬ Takes run_line words) ⊎ CannotRun (sessions_in (matches_of run_line words)))

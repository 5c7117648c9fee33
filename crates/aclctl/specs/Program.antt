-- What the program results in.
use Rattle.std.specs.Prelude.{◌≡◌, ◌⊎◌, ℕ, ◌++◌, List, [], ◌∷◌, Option, Some, codes, false, true}
use Rattle.std.specs.Prelude.{IfSome}
use Rattle.std.specs.Io.KnownBytes.{Keeps}
use Rattle.clap.specs.Words.{App, Text}
use Rattle.acl_names.specs.Bytes.{newline}
use Rattle.acl_cli.specs.Commands.{Answer, Ends, Meaning, of_words}
use Rattle.acl_cli.specs.ErrorOutput.{ErrorText, Reports, line_of_words}
use Rattle.acl_cli.specs.Failures.{failed_write, line_of, status_of}
use Rattle.acl_cli.specs.declared.command.Ending.TheVariants.{Answered}
use Rattle.acl_cli.specs.declared.failure.Failure.{Failure}
use Rattle.acl_cli.specs.declared.failure.Failure.TheVariants.{Misuse}
use Rattle.acl_cli.specs.declared.misuse.Misuse.TheVariants.{NoCommand}
use Rattle.acl_listing_queries.specs.WhoLine.{who_line}
use Rattle.acl_listing_queries.specs.WhoMeaning.{who_meaning}
use Rattle.acl_listing_queries.specs.WhyLine.{why_line}
use Rattle.acl_listing_queries.specs.WhyMeaning.{why_meaning}
use Rattle.acl_listing_changes.specs.RestoreLine.{restore_line}
use Rattle.acl_listing_changes.specs.RestoreMeaning.{restore_meaning}
use Rattle.acl_listing_creation.specs.NextLine.{next_line}
use Rattle.acl_listing_creation.specs.NextMeaning.{next_meaning}
use Rattle.acl_listing_lint.specs.LintsLine.{lints_line}
use Rattle.acl_listing_reach.specs.ImpactLine.{impact_line}
use Rattle.acl_listing_reach.specs.ImpactMeaning.{impact_meaning}
use Rattle.acl_listing_translation.specs.TranslateLine.{translate_line}
use Rattle.acl_listing_translation.specs.TranslateMeaning.{translate_meaning}
use Rattle.acl_queries.specs.CompareLine.{compare_line}
use Rattle.acl_queries.specs.DecideAnswer.{decide_meaning}
use Rattle.acl_queries.specs.DecideLine.{decide_line}
use Rattle.acl_queries.specs.Differences.{compare_meaning}
use Rattle.acl_queries.specs.ExplainLine.{explain_line}
use Rattle.acl_queries.specs.ExplainText.{explain_meaning}
use Rattle.acl_service.specs.RunLine.{run_line}
use Rattle.acl_service.specs.RunMeaning.{run_meaning}
use Rattle.acl_tree_queries.specs.AccountsAnswer.{accounts_meaning}
use Rattle.acl_tree_queries.specs.AccountsLine.{accounts_line}
use Rattle.acl_tree_queries.specs.DumpAnswer.{dump_meaning}
use Rattle.acl_tree_queries.specs.DumpLine.{dump_line}
use Rattle.acl_tree_queries.specs.ListAnswer.{list_meaning}
use Rattle.acl_tree_queries.specs.ListLine.{list_line}
use Rattle.aclctl.specs.HelpOf.{no_fields}
use Rattle.aclctl.specs.HelpText.{help_text}
use Rattle.aclctl.specs.Input.{AreWordsOf, IsInputFailure}
use Rattle.aclctl.specs.Lint.{lint_by, names_setup}
use Rattle.aclctl.specs.Names.{asked, name_of}
use Rattle.aclctl.specs.declared.named.Asked.{Asked}
use Rattle.aclctl.specs.declared.named.Asked.TheVariants.{Command, HelpOf, Nothing}
use Rattle.aclctl.specs.declared.named.Named.{Named}
use Rattle.aclctl.specs.declared.named.Named.TheVariants.{Decide, Explain, Compare, Run, Who}
use Rattle.aclctl.specs.declared.named.Named.TheVariants.{Why, Impact, Restore, Translate}
use Rattle.aclctl.specs.declared.named.Named.TheVariants.{Next}
use Rattle.aclctl.specs.declared.named.Named.TheVariants.{List as ListTree, Accounts, Dump, Lint}
use Rattle.aclctl.specs.declared.named.Named.TheVariants.{Help, Version}

-- what is reported for each file, by its name
abbrev pub Files : Type 0
Files = Text → Option (List ℕ)

-- what `--version` prints
abbrev pub version_text : List ℕ
version_text = codes "aclctl 0.1.0" ++ newline ∷ []

-- a text is all that is printed
abbrev pub plain : List ℕ → Answer
plain text = record { text = text; beside = []; ending = Answered }

abbrev pub text_meaning : List ℕ → Meaning
text_meaning text = record {
  Answers = λ answer. answer ≡ plain text;
  Begins = λ answer. answer ≡ plain text;
  Fails = λ failure. failure ≡ failed_write;
  inputs = 0;
}

-- with these files and this standard input, what words mean to a command
abbrev pub command_meaning : Files → Option (List ℕ) → Named → List Text → Meaning
command_meaning files input Decide words = of_words decide_line false decide_meaning words
command_meaning files input Explain words = of_words explain_line true explain_meaning words
command_meaning files input Compare words = of_words compare_line true compare_meaning words
command_meaning files input Run words = of_words run_line false (run_meaning files input) words
command_meaning files input Who words = of_words who_line true (who_meaning files input) words
command_meaning files input Why words = of_words why_line true (why_meaning files input) words
command_meaning files input Impact words =
    of_words impact_line true (impact_meaning files input) words
command_meaning files input Restore words =
    of_words restore_line true (restore_meaning files input) words
command_meaning files input Translate words =
    of_words translate_line true (translate_meaning files input) words
command_meaning files input Next words = of_words next_line true (next_meaning files input) words
command_meaning files input ListTree words =
    of_words list_line true (list_meaning files input) words
command_meaning files input Accounts words =
    of_words accounts_line true (accounts_meaning files input) words
command_meaning files input Dump words = of_words dump_line true (dump_meaning files input) words
command_meaning files input Lint words = lint_by (names_setup words) files input words
command_meaning files input Help words = text_meaning help_text
command_meaning files input Version words = text_meaning version_text

-- what the help of a command of this name and this line means
abbrev pub help_by : Text → App → Meaning
help_by name line = of_words line true no_fields (name ∷ codes "--help" ∷ [])

abbrev pub help_meaning : Named → Meaning
help_meaning Decide = help_by (name_of Decide) decide_line
help_meaning Explain = help_by (name_of Explain) explain_line
help_meaning Compare = help_by (name_of Compare) compare_line
help_meaning Run = help_by (name_of Run) run_line
help_meaning Who = help_by (name_of Who) who_line
help_meaning Why = help_by (name_of Why) why_line
help_meaning Impact = help_by (name_of Impact) impact_line
help_meaning Restore = help_by (name_of Restore) restore_line
help_meaning Translate = help_by (name_of Translate) translate_line
help_meaning Next = help_by (name_of Next) next_line
help_meaning ListTree = help_by (name_of ListTree) list_line
help_meaning Accounts = help_by (name_of Accounts) accounts_line
help_meaning Dump = help_by (name_of Dump) dump_line
help_meaning Lint = help_by (name_of Lint) lints_line
help_meaning Help = text_meaning help_text
help_meaning Version = text_meaning help_text

module _ {I : Type 0} (status : ℕ) (out out' : Option (List ℕ)) (err err' : ErrorText)
    (stdin stdin' : I) where
  -- no command is named: nothing is answered, and the line is reported with a text for people
  -- behind it
  pub record EndsUnnamed : Type 0 where
    pub is_status : status ≡ status_of (Misuse NoCommand)
    pub silent : Keeps out out'
    pub more : List ℕ
    pub reported : IfSome (line_of (Misuse NoCommand)) (λ line. Reports (line ++ more) err err')
    pub unread : stdin' ≡ stdin

  -- what the program results in that is asked for such a thing by these words
  abbrev pub EndsAsked : Files → Option (List ℕ) → List Text → Asked → Type 0
  EndsAsked files input words (Command command) = Ends (command_meaning files input command words)
      status out out' err err' stdin stdin'
  EndsAsked files input words (HelpOf command) = Ends (help_meaning command)
      status out out' err err' stdin stdin'
  EndsAsked files input words Nothing = EndsUnnamed

  -- what it results in with these words
  abbrev pub EndsAs : Files → Option (List ℕ) → List Text → Type 0
  EndsAs files input words = EndsAsked files input words (asked words)

  -- the words were refused for this, before any command ran
  pub record EndsRefused (failure : Failure) : Type 0 where
    pub is_status : status ≡ status_of failure
    pub silent : Keeps out out'
    pub reported : IfSome (line_of failure) (λ line. Reports line err err')

  -- what it results in with words on standard input, where these bytes are: they are words, and
  -- nothing is left there; or they are refused, for a fault of the bytes or of reading them
  abbrev pub EndsFrom : Files → List ℕ → Type 0
  EndsFrom files bytes =
      ((words : List Text) × AreWordsOf bytes words × EndsAs files (Some []) words)
      ⊎ ((failure : Failure) × IsInputFailure failure bytes × EndsRefused failure)

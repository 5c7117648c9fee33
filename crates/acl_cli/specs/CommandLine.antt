-- The rules of command lines, and which words they take.
use Rattle.std.specs.Prelude.{◌≡◌, ℕ, List, [], Some, fold, true}
use Rattle.clap.specs.Words.{App, Rule, Text, fault_of, new_app, new_rule, with_rule}
use Rattle.clap.specs.declared.builder.action.ArgAction.TheVariants.{Append, SetTrue}
use Rattle.clap.specs.declared.builder.value_parser.ValueParser.TheVariants.{Unsigned}
use Rattle.acl_cli.specs.declared.command_line.Line.{Line}
use Rattle.acl_cli.specs.declared.word.Given.{Given}
use Rattle.acl_cli.specs.declared.word.Given.TheVariants as given
use Rattle.acl_cli.specs.declared.word.Word.{Word}

-- `--name VALUE`, optional; and required
abbrev pub optional_option : Text → Rule
optional_option name = record (new_rule name) { long = Some name; value_names = 1 }

abbrev pub required_option : Text → Rule
required_option name = record (optional_option name) { required = true }

-- the same, any number of times
abbrev pub repeated_option : Text → Rule
repeated_option name = record (optional_option name) { action = Some Append }

-- one whose value is a number from 1 to the most
abbrev pub count_option : ℕ → Text → Rule
count_option most name = record (optional_option name) { parser = Some (Unsigned 1 most) }

-- `--name` alone, optional
abbrev pub flag : Text → Rule
flag name = record (new_rule name) { long = Some name; action = Some SetTrue }

-- a word that belongs to no option, optional; and required
abbrev pub optional_word : Text → Rule
optional_word name = record (new_rule name) { value_names = 1 }

abbrev pub required_word : Text → Rule
required_word name = record (optional_word name) { required = true }

-- the same, once or more often
abbrev pub required_words : Text → Rule
required_words name = record (required_word name)
    { range = Some (record { start_inclusive = 1; end_inclusive = 18446744073709551615 }) }

-- the rule of a word that is given so
abbrev pub rule_given : Given → Text → Rule
rule_given given.Option name = optional_option name
rule_given given.RequiredOption name = required_option name
rule_given given.RepeatedOption name = repeated_option name
rule_given (given.CountOption most) name = count_option most name
rule_given given.Flag name = flag name
rule_given given.Word name = optional_word name
rule_given given.RequiredWord name = required_word name
rule_given given.Words name = required_words name

abbrev pub rule_of_word : Word → Rule
rule_of_word word = rule_given word.given word.name.now

abbrev pub with_word : App → Word → App
with_word app word = with_rule app (rule_of_word word)

-- what the parser sees of a line
abbrev pub app_of_line : Line → App
app_of_line line = fold with_word (new_app line.name.now) line.words.now

-- the parser finds no fault in the words, the first of which is the command's name
abbrev pub Takes : App → List Text → Type 0
Takes line words = fault_of line words ≡ []

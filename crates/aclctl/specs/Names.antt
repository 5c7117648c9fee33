-- The commands by their names, and what words ask for.
use Rattle.std.specs.Prelude.{ℕ, List, [], ◌∷◌, Option, Some, None, bytes_eq, codes}
use Rattle.std.specs.Prelude.{if◌then◌else◌}
use Rattle.clap.specs.Words.{Text}
use Rattle.aclctl.specs.declared.named.Asked.{Asked}
use Rattle.aclctl.specs.declared.named.Asked.TheVariants.{Command, HelpOf, Nothing}
use Rattle.aclctl.specs.declared.named.Named.{Named}
use Rattle.aclctl.specs.declared.named.Named.TheVariants.{Decide, Explain, Compare, Run, Who}
use Rattle.aclctl.specs.declared.named.Named.TheVariants.{Why, Impact, Restore, Translate}
use Rattle.aclctl.specs.declared.named.Named.TheVariants.{Next}
use Rattle.aclctl.specs.declared.named.Named.TheVariants.{List as ListTree, Accounts, Dump, Lint}
use Rattle.aclctl.specs.declared.named.Named.TheVariants.{Help, Version}

-- the command of this name
abbrev pub named : Text → Option Named
named word =
    if bytes_eq word (codes "decide") then Some Decide
    else if bytes_eq word (codes "explain") then Some Explain
    else if bytes_eq word (codes "compare") then Some Compare
    else if bytes_eq word (codes "run") then Some Run
    else if bytes_eq word (codes "who") then Some Who
    else if bytes_eq word (codes "why") then Some Why
    else if bytes_eq word (codes "impact") then Some Impact
    else if bytes_eq word (codes "restore") then Some Restore
    else if bytes_eq word (codes "translate") then Some Translate
    else if bytes_eq word (codes "next") then Some Next
    else if bytes_eq word (codes "list") then Some ListTree
    else if bytes_eq word (codes "accounts") then Some Accounts
    else if bytes_eq word (codes "dump") then Some Dump
    else if bytes_eq word (codes "lint") then Some Lint
    else if bytes_eq word (codes "help") then Some Help
    else if bytes_eq word (codes "--help") then Some Help
    else if bytes_eq word (codes "-h") then Some Help
    else if bytes_eq word (codes "--version") then Some Version
    else None

abbrev pub name_of : Named → Text
name_of Decide = codes "decide"
name_of Explain = codes "explain"
name_of Compare = codes "compare"
name_of Run = codes "run"
name_of Who = codes "who"
name_of Why = codes "why"
name_of Impact = codes "impact"
name_of Restore = codes "restore"
name_of Translate = codes "translate"
name_of Next = codes "next"
name_of ListTree = codes "list"
name_of Accounts = codes "accounts"
name_of Dump = codes "dump"
name_of Lint = codes "lint"
name_of Help = codes "--help"
name_of Version = codes "--version"

-- what a name asks for, and what `help` with a name behind it does
abbrev pub command_if : Option Named → Asked
command_if (Some command) = Command command
command_if None = Nothing

abbrev pub help_if : Option Named → Asked
help_if (Some command) = HelpOf command
help_if None = Nothing

-- what `help` with these words behind it asks for
abbrev pub help_about : List Text → Asked
help_about [] = Command Help
help_about (word ∷ more) = help_if (named word)

-- what words ask for
abbrev pub asked : List Text → Asked
asked [] = Nothing
asked (first ∷ more) =
    if bytes_eq first (codes "help") then help_about more else command_if (named first)

-- By which rules the words have POSIX lists evaluated.
use Rattle.std.specs.Prelude.{List, codes, if◌then◌else◌}
use Rattle.clap.specs.Words.{Row}
use Rattle.acl_access.specs.declared.rules.Rules.{Rules}
use Rattle.acl_access.specs.declared.rules.Rules.TheVariants.{Draft, Linux}
use Rattle.acl_cli.specs.Fields.{flag_in}

abbrev pub rules_in : List Row → Rules
rules_in rows = if flag_in (codes "draft") rows then Draft else Linux

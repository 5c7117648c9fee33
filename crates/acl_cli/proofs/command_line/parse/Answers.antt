use Rattle.acl_cli.proofs.CommandLemmas.{FailsBy-err, FailsBy-kind, FailsBy-line, FailsBy-ok, HasMatches-line}
use Rattle.acl_cli.proofs.command_line.parse.Goals as goal

pub returns-clause-taken : goal.returns-clause-taken
returns-clause-taken g c =
    FailsBy-ok _ _ (FailsBy-line g.C.CommandLine.line _ _ c.in_ok-command_of.ensures _ g.met.C.CommandLine.line_free c.try_get_matches_from.ensures.kinds)

pub returns-clause-fields : goal.returns-clause-fields
returns-clause-fields g c =
    HasMatches-line g.C.CommandLine.line _ _ c.in_ok-command_of.ensures g.met.C.CommandLine.line_simple _ c.try_get_matches_from.ensures.matches

pub returns-clause-refused : goal.returns-clause-refused
returns-clause-refused g c =
    FailsBy-err _ _ (FailsBy-line g.C.CommandLine.line _ _ c.in_ok-command_of.ensures _ g.met.C.CommandLine.line_free c.try_get_matches_from.ensures.kinds)

pub returns-clause-kinds : goal.returns-clause-kinds
returns-clause-kinds g c =
    FailsBy-kind _ _ (FailsBy-line g.C.CommandLine.line _ _ c.in_ok-command_of.ensures _ g.met.C.CommandLine.line_free c.try_get_matches_from.ensures.kinds)

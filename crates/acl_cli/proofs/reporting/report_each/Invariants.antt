use Rattle.std.proofs.Common.{◌≡◌, ℕ, List, [], not}
use Rattle.acl_cli.specs.ErrorOutput.{Reports}
use Rattle.acl_cli.specs.Reporting.{LeadsOn, is_empty}
use Rattle.acl_cli.specs.declared.command.Ending.{Ending}
use Rattle.acl_cli.specs.declared.failure.Failure.{Failure}
use Rattle.acl_cli.proofs.PiecesLemmas.{WentOut}
use Rattle.acl_cli.proofs.reporting.report_each.Given as goal

-- what was reported, of which what is kept didn't go out yet, and what was said beside it
abbrev pub invariant-loop : goal.invariant-loop
invariant-loop g l = record {
  reported : List ℕ;
  said : List ℕ;
  out : WentOut (g.W.Write.contents l.initial.out) (g.W.Write.contents l.out) l.text.items reported;
  beside : Reports said l.initial.err l.err;
  empty : l.beside.items ≡ [];
  all : LeadsOn (g.T.Reporting.Reports l.initial.reporting) (g.T.Reporting.Reports l.reporting) reported said;
  first : LeadsOn (g.T.Reporting.Begins l.initial.reporting) (g.T.Reporting.Begins l.reporting) reported said;
  begun : g.T.Reporting.Begins l.reporting [] [];
  ends : (ending : Ending) → g.T.Reporting.Ends l.reporting ending → g.T.Reporting.Ends l.initial.reporting ending;
  fails : (failure : Failure) → g.T.Reporting.Fails l.reporting failure → g.T.Reporting.Fails l.initial.reporting failure;
  some_is : l.some ≡ not (is_empty reported);
}

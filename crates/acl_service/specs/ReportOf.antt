-- Private steps, which no public clause cites: the report of a run over the tree.
use Rattle.std.specs.Prelude.{◌≡◌}
use Rattle.acl_lang.specs.declared.answer.Answer.{Answer}
use Rattle.acl_lang.specs.declared.text.Numbered.{Numbered}
use Rattle.acl_broker.specs.declared.steps.JournalEntry.{JournalEntry}
use Rattle.acl_runs.specs.declared.report.RunReport.{RunReport}
use Rattle.acl_service.specs.declared.served.Served.{Served}
use Rattle.acl_service.specs.declared.sessions.report.Report.{Report}

-- what a run reports, with the tree of its service
abbrev pub report_of : RunReport Served (JournalEntry Numbered) Answer → Report
report_of run = record {
  journal = run.journal;
  answers = run.answers;
  outputs = run.outputs;
  tree = run.service.tree;
}

-- the report is that of the run, with the entries of its journal in a list of its own
pub record IsReportOf (run : RunReport Served (JournalEntry Numbered) Answer) (report : Report)
    : Type 0 where
  pub journal : report.journal.items ≡ run.journal.items
  pub answers : report.answers ≡ run.answers
  pub outputs : report.outputs ≡ run.outputs
  pub tree : report.tree ≡ run.service.tree

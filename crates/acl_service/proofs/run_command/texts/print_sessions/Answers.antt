use Rattle.std.proofs.Common.{Bool, List, ℕ, Option, Vec, Global, map, refl}
use Rattle.std.proofs.lemmas.Result.{on_ok_weaker}
use Rattle.acl_names.specs.Directory.{Known}
use Rattle.acl_tree.specs.Tree.{NodesUnderUmask}
use Rattle.acl_service.specs.RunText.{run_text}
use Rattle.acl_service.specs.RunTexts.{IsOfReport}
use Rattle.acl_service.specs.Sessions.{ExplainsSessions}
use Rattle.acl_service.specs.ReportOf.{report_of}
use Rattle.acl_service.specs.declared.sessions.report.Report.{Report}
use Rattle.acl_service.proofs.run_command.texts.print_sessions.Goals as goal

-- the text of a report that explains the sessions went out so
reported : (known : Known) (tree : NodesUnderUmask) (texts : List (Vec ℕ Global)) (journal : Bool) (limit : Option ℕ) (report : Report) (WentOut : List ℕ → Type 0)
    → ExplainsSessions known tree limit texts report → WentOut (run_text journal report.journal.items (map (λ output. output.items) report.outputs.items))
    → (text : List ℕ) × IsOfReport known tree texts journal limit text × WentOut text
reported known tree texts journal limit report WentOut explains out =
    (run_text journal report.journal.items (map (λ output. output.items) report.outputs.items), record { report = report; explains = explains; is = refl }, out)

pub returns-in-Ok-clause-printed : goal.returns-in-Ok-clause-printed
returns-in-Ok-clause-printed g c =
    on_ok_weaker c.print_report.result (reported _ _ _ _ _ (report_of c.in-Ok.report) _ c.in-Ok.ensures) c.print_report.ensures.printed

pub returns-in-Ok-clause-cut : goal.returns-in-Ok-clause-cut
returns-in-Ok-clause-cut g c lost = reported _ _ _ _ _ (report_of c.in-Ok.report) _ c.in-Ok.ensures (c.print_report.ensures.cut lost)

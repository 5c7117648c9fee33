use Rattle.std.proofs.Common.{◌≡◌, [], List, ℕ, Vec, Global, map, rules, subst, if◌then◌else◌}
use Rattle.acl_cli.specs.Output.{AppendsFront}
use Rattle.acl_cli.proofs.OutputLemmas.{front_behind, front_of_longer}
use Rattle.acl_service.specs.RunText.{journal_text, run_text}
use Rattle.acl_service.proofs.run_command.texts.print_report.Goals as goal
use Rattle.acl_service.proofs.run_command.texts.print_report.Goals.{then-journal+in_ok-entries, else-journal}

pub returns-in_err-write_outputs-clause-cut : goal.returns-in_err-write_outputs-clause-cut
returns-in_err-write_outputs-clause-cut g c lost =
    let report = c.args.report.now in
    let went = λ (outputs : List (Vec ℕ Global)). AppendsFront (g.W.Write.contents c.args.out.now) (g.W.Write.contents c.write_outputs.new.out)
    (run_text c.args.journal report.journal.items (map (λ output. output.items) outputs)) in
    subst went c.as_slice-2.ensures.value (front_of_longer _ _ _ _ c.write_outputs.ensures.front)

pub returns-in_err-write_text-clause-cut : goal.returns-in_err-write_text-clause-cut
returns-in_err-write_text-clause-cut g c lost =
    let report = c.args.report.now in
    let old = g.W.Write.contents c.args.out.now in
    let between = g.W.Write.contents c.write_outputs.new.out in
    let new = g.W.Write.contents c.write_text.new.out in
    let journal : List ℕ = if c.args.journal then journal_text report.journal.items else [] in
    let entries_are : c.as_slice-3.result.now ≡ journal = elim c.if-journal.branch [
      | then-journal+in_ok-entries w ↦ search rules
      | else-journal w ↦ search rules
    ] in
    let went = λ (outputs : List (Vec ℕ Global)). AppendsFront old new (run_text c.args.journal report.journal.items (map (λ output. output.items) outputs)) in
    subst went c.as_slice-2.ensures.value
    (front_behind old between new _ journal c.in_ok-write_outputs.ensures.written (subst (AppendsFront between new) entries_are c.write_text.ensures.front))

use Rattle.std.proofs.Common.{◌++◌, ◌∷◌, [], codes}
use Rattle.acl_names.specs.Bytes.{newline}
use Rattle.acl_cli.specs.ErrorOutput.{line_of_words}
use Rattle.acl_cli.proofs.ErrorLemmas.{Reports-both}
use Rattle.aclctl.proofs.help.report_no_command.Goals as goal

pub returns-clause-reported : goal.returns-clause-reported
returns-clause-reported g c =
    let named = c.as_bytes.result.now in
    let help = c.as_bytes-2.result.now in
    let more = named ++ (newline ∷ [] ++ help) in (
      more,
      Reports-both (line_of_words (codes "no command")) more _ _ _ c.report.ensures
          (Reports-both named (newline ∷ [] ++ help) _ _ _ c.write_text.ensures
          (Reports-both (newline ∷ []) help _ _ _ c.write_text-2.ensures c.write_text-3.ensures)),
    )

use Rattle.std.proofs.Common.{codes}
use Rattle.acl_names.specs.Shown.{shown}
use Rattle.acl_cli.proofs.ErrorLemmas.{Reports-both}
use Rattle.acl_cli.proofs.error_output.ErrorOutput.write_faulty.Goals as goal

pub returns-in-Some : goal.returns-in-Some
returns-in-Some g c =
    let both = Reports-both (codes ": ") (shown c.in-Some.text.now) _ _ _ c.write_text.ensures c.write_escaped.ensures in
    rw c.in-Some.is both

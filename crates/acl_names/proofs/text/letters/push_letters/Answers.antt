use Rattle.std.proofs.Common.{arith}
use Rattle.std.proofs.lemmas.Grind.{common_steps}
use Rattle.acl_names.proofs.LettersAgain.{letter_to_come}
use Rattle.acl_names.proofs.text.letters.push_letters.Goals as goal

pub returns-in_err-push-clause-printed : goal.returns-in_err-push-clause-printed
returns-in_err-push-clause-printed c =
    let more = letter_to_come c.args.table.now c.args.bits c.loop-row.row-index (record { letter = 0; bit = 0 }) c.loop-row-test.true c.if-bits-row-ne0.true in
    grind (arith, common_steps, more)

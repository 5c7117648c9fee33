use Rattle.std.proofs.Common.{Err, Ok, ap, refl}
use Rattle.acl_cli.specs.declared.command.Ending.TheVariants.{Answered}
use Rattle.acl_service.specs.RunMeaning.{texts_meaning}
use Rattle.acl_service.proofs.RunLemmas.{Comes-failed, Comes-ran}
use Rattle.acl_service.proofs.run_command.run_texts.Goals as goal

pub returns-in-Ok-clause-ended : goal.returns-in-Ok-clause-ended
returns-in-Ok-clause-ended g c =
    let setup = c.args.setup.now in
    let texts = c.args.texts.now in
    let comes = Comes-ran setup texts c.args.journal c.args.max_errors (g.W.Write.contents c.args.out.now) (g.W.Write.contents c.print_texts.new.out) c.args.err.now (tt {0}) (tt {0})
    (texts_meaning setup texts c.args.journal c.args.max_errors) (λ answer is. is) (λ answer is. is) (λ failure is. is) (λ none. refl) (λ failure is two. refl) c.in-Ok.ensures.printed in
    record { result = Ok Answered; between = c.args.err.now; comes = comes; reported = (refl, refl) }

pub returns-in-Err-clause-ended : goal.returns-in-Err-clause-ended
returns-in-Err-clause-ended g c =
    let setup = c.args.setup.now in
    let texts = c.args.texts.now in
    let comes = Comes-failed setup texts c.args.journal c.args.max_errors (g.W.Write.contents c.args.out.now) (g.W.Write.contents c.print_texts.new.out) c.args.err.now (tt {0}) (tt {0})
    (texts_meaning setup texts c.args.journal c.args.max_errors) (λ answer is. is) (λ answer is. is) (λ failure is. is) (λ none. refl) (λ failure is two. refl) c.in-Err.failure
    c.in-Err.ensures.refused c.in-Err.ensures.silent (λ is. c.in-Err.ensures.cut (ap Err is)) in
    record { result = Err c.in-Err.failure; between = c.args.err.now; comes = comes; reported = (c.status.ensures, c.report.ensures) }

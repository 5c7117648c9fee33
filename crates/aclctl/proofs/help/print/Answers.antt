use Rattle.std.proofs.Common.{◌≤◌, Err, List, Ok, arith, inr, refl, subst, ℕ}
use Rattle.std.specs.Io.KnownBytes.{Appends}
use Rattle.acl_cli.specs.Failures.{failed_write}
use Rattle.acl_cli.specs.Output.{AppendsFront}
use Rattle.acl_cli.specs.declared.command.Ending.TheVariants.{Answered}
use Rattle.acl_cli.proofs.ReportingLemmas.{Reports-nothing}
use Rattle.aclctl.specs.Program.{plain}
use Rattle.aclctl.proofs.help.print.Goals as goal

pub returns-in-Ok : goal.returns-in-Ok
returns-in-Ok g c =
    let went = subst (λ (text : List ℕ). Appends (g.W.Write.contents c.args.out.now) (g.W.Write.contents c.write_text.new.out) text) c.as_bytes.ensures.value c.in-Ok.ensures.written in
    record {
      result = Ok Answered;
      between = c.args.err.now;
      comes = record {
        answered = record { answer = plain c.args.text.now; is = refl; ends = refl; text = went; beside = Reports-nothing c.args.err.now };
        fails = tt;
        silent = tt;
        cut = tt;
        untouched = λ none. refl;
        unread = tt;
      };
      reported = (refl, refl);
    }

pub returns-in-Err : goal.returns-in-Err
returns-in-Err g c =
    let front = subst (λ (text : List ℕ). AppendsFront (g.W.Write.contents c.args.out.now) (g.W.Write.contents c.write_text.new.out) text) c.as_bytes.ensures.value c.write_text.ensures.front in
    record {
      result = Err failed_write;
      between = c.args.err.now;
      comes = record {
        answered = tt;
        fails = refl;
        silent = λ few. absurd (omega (arith, few));
        cut = inr (record { answer = plain c.args.text.now; is = refl; text = front; said = 0; beside = Reports-nothing c.args.err.now });
        untouched = λ none. refl;
        unread = λ two. refl;
      };
      reported = (c.status.ensures, c.report.ensures);
    }

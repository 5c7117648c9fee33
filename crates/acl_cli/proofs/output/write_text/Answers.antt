use Rattle.std.proofs.Common.{ℕ, arith, subst, sym, take}
use Rattle.std.proofs.KnownBytes.{Appends-kept}
use Rattle.std.specs.Io.KnownBytes.{Appends}
use Rattle.acl_cli.proofs.OutputLemmas.{front_and_more, front_within}
use Rattle.acl_cli.proofs.output.write_text.Goals as goal
use Rattle.acl_cli.proofs.output.write_text.Goals.{in-Ok, in-Err}

pub loop-preserved : goal.loop-preserved
loop-preserved g c =
    let went = λ (sent : ℕ). Appends (g.W.Write.contents c.args.out.now) (g.W.Write.contents c.write.new.self) (take sent c.args.text.now) in
    elim c.match-write.branch [
      | in-Ok w ↦ record {
        within = omega (arith, w.written-is, front_within _ _ _ c.loop.invariant.within w.in-Ok.ensures.bound);
        went = subst went (sym w.written-is) (front_and_more _ _ _ _ _ _ c.loop.invariant.went w.in-Ok.ensures.bytes);
      }
      | in-Err w ↦ record {
        within = omega (arith, w.written-is, c.loop.invariant.within);
        went = subst went (sym w.written-is) (Appends-kept _ _ _ _ c.loop.invariant.went w.in-Err.ensures.bytes);
      }
    ]

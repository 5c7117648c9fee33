use Rattle.std.proofs.Common.{rules, length, refl, subst, sym}
use Rattle.std.proofs.Math.Seq.{take-length}
use Rattle.acl_nfs4.proofs.ListLemmas.{OnErr-from}
use Rattle.acl_cli.specs.Commands.{Answer}
use Rattle.acl_cli.specs.ErrorOutput.{Reports}
use Rattle.acl_cli.specs.Output.{AppendsFront}
use Rattle.acl_listing_queries.proofs.why.command.write_made.Goals as goal

pub returns-in_err-write_text-clause-cut : goal.returns-in_err-write_text-clause-cut
returns-in_err-write_text-clause-cut g c =
    let made : Answer = c.args.made.now in
    let front : AppendsFront (g.W.Write.contents c.args.out.now) (g.W.Write.contents c.write_text-2.new.out) made.text = search rules in
    let reported : Reports made.beside c.args.err.now c.write_text.new.self = search rules in
    OnErr-from c.from_residual.result (record {
      answer = made;
      is = refl;
      text = front;
      said = length made.beside;
      beside = subst (λ text. Reports text c.args.err.now c.write_text.new.self) (sym (take-length made.beside)) reported;
    })

use Rattle.std.proofs.lemmas.Result.{err_from_is_err_and}
use Rattle.acl_names.proofs.Pushed.{PushesInRoom-next, PushesInRoom-short}
use Rattle.acl_names.proofs.TakeLemmas.{All-take-next}
use Rattle.acl_nfs4.specs.Ace.{Nfsace4}
use Rattle.acl_nfs4.specs.PrintedText.{line_text}
use Rattle.acl_nfs4.specs.Who.{HasId}
use Rattle.acl_nfs4.proofs.printing.push_lines.Goals as goal

pub returns-in_err-push_line-clause-printed : goal.returns-in_err-push_line-clause-printed
returns-in_err-push_line-clause-printed c =
    let p = err_from_is_err_and c.from_residual.result c.from_residual.ensures.1 in
    rw p.1 (PushesInRoom-short (line_text c.args.directory.now) c.args.aces.now c.loop-ace.ace-index c.ace-item.result c.loop-ace-test.true c.ace-item.is
    c.loop-ace.invariant.printed c.in_err-push_line.ensures.printed)

pub loop-ace-preserved : goal.loop-ace-preserved
loop-ace-preserved c =
    let aces = c.args.aces.now in
    let i = c.loop-ace.ace-index in
    let ace = c.ace-item.result in
    let so_far = c.loop-ace.invariant in
    record {
      printed = PushesInRoom-next (line_text c.args.directory.now) aces i ace c.loop-ace-test.true c.ace-item.is so_far.printed c.in_ok-push_line.ensures.printed;
      have_ids = All-take-next (λ (ace : Nfsace4). HasId ace.who) aces i ace c.loop-ace-test.true c.ace-item.is so_far.have_ids c.in_ok-push_line.ensures.has_id;
    }

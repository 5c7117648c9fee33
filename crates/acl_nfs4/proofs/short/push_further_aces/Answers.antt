use Rattle.std.proofs.Common.{◌∷◌, List, ℕ}
use Rattle.std.proofs.lemmas.Result.{err_from_is_err_and}
use Rattle.acl_names.specs.Bytes.{comma}
use Rattle.acl_names.proofs.Pushed.{PushesInRoom-next, PushesInRoom-short}
use Rattle.acl_names.proofs.TakeLemmas.{All-take-next}
use Rattle.acl_nfs4.specs.Ace.{Nfsace4}
use Rattle.acl_nfs4.specs.PrintedText.{short_ace}
use Rattle.acl_nfs4.specs.Who.{HasId}
use Rattle.acl_nfs4.proofs.short.push_further_aces.Goals as goal

-- a comma and the entry
abbrev further : Nfsace4 → List ℕ
further ace = comma ∷ short_ace ace

pub returns-in_err-push_further_ace-clause-printed : goal.returns-in_err-push_further_ace-clause-printed
returns-in_err-push_further_ace-clause-printed c =
    let p = err_from_is_err_and c.from_residual.result c.from_residual.ensures.1 in
    rw p.1 (PushesInRoom-short further c.args.aces.now c.loop-ace.ace-index c.ace-item.result c.loop-ace-test.true c.ace-item.is
    c.loop-ace.invariant.printed c.in_err-push_further_ace.ensures.printed)

pub loop-ace-preserved : goal.loop-ace-preserved
loop-ace-preserved c =
    let aces = c.args.aces.now in
    let i = c.loop-ace.ace-index in
    let ace = c.ace-item.result in
    let so_far = c.loop-ace.invariant in
    record {
      printed = PushesInRoom-next further aces i ace c.loop-ace-test.true c.ace-item.is so_far.printed c.in_ok-push_further_ace.ensures.printed;
      have_ids = All-take-next (λ (ace : Nfsace4). HasId ace.who) aces i ace c.loop-ace-test.true c.ace-item.is so_far.have_ids c.in_ok-push_further_ace.ensures.has_id;
    }

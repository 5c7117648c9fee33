use Rattle.std.proofs.Common.{length, map}
use Rattle.acl_broker.specs.Takers.{view}
use Rattle.acl_runs.proofs.GatheringLemmas.{are_served, are_ends_of, limits_begin}
use Rattle.acl_runs.proofs.serving.run_workers.Goals as goal

pub settle-requires : goal.settle-requires
settle-requires g c =
    are_ends_of g.C.RequestSource.rest g.P.Replies.handling c.args.setting.now.replies.now
    c.args.setting.now.max_errors c.args.begun.ends.items c.args.sessions.items
    c.in_ok-workers.workers.items c.in_ok-gathered.gathered c.in_ok-workers.ensures c.in_ok-gathered.ensures
    (view c.args.begun.taker).sides (view c.serve_until_done.new.taker).sides c.requires.ready.count c.requires.ready.pairs c.serve_until_done.ensures.pairs

pub returns : goal.returns
returns g c opening keeps =
    c.settle.ensures (g.P.Replies.handling c.args.setting.now.replies.now) opening c.args.setting.now.max_errors c.serve_until_done.new.limits (map g.C.RequestSource.rest c.args.sessions.items)
    (c.serve_until_done.ensures.keeps opening keeps)
    (c.serve_until_done.ensures.limits opening c.args.setting.now.max_errors keeps
    (limits_begin _ _ (g.P.Replies.handling c.args.setting.now.replies.now).is_error opening
    (length c.args.sessions.items) c.args.begun.ends.items
    (view c.args.begun.taker) c.args.setting.now.max_errors c.args.begun.limits c.requires.ready keeps
    c.requires.some c.requires.limits))
    (are_served g.C.RequestSource.rest g.P.Replies.handling c.args.setting.now.replies.now
    c.args.setting.now.max_errors c.args.begun.ends.items c.args.sessions.items
    c.in_ok-workers.workers.items c.in_ok-gathered.gathered c.in_ok-workers.ensures c.in_ok-gathered.ensures)

use Rattle.std.proofs.Common.{◌≡◌, length, subst, arith}
use Rattle.acl_broker.specs.Takers as taker
use Rattle.acl_broker.specs.Brokers.{view, opening_point}
use Rattle.acl_runs.specs.Taking.{StartsWith}
use Rattle.acl_runs.specs.Threads.{IsReady}
use Rattle.acl_runs.proofs.GatheringLemmas.{ready_of}
use Rattle.acl_runs.proofs.serving.begin.Goals as goal

pub returns-clause-begun : goal.returns-clause-begun
returns-clause-begun g c =
    let halves = c.split-ends.ensures in
    let same : c.len-count.result ≡ length c.args.sessions.now.items = omega (arith, c.len-count.ensures, c.args.sessions.now.ok.0) in
    record {
      ready = subst (λ count. IsReady count c.split-ends.result.0.items (taker.view c.split-ends.result.1)) same
          (ready_of _ _ c.args.service c.len-count.result (view c.in-Ok.broker) c.split-ends.result.0.items
          (taker.view c.split-ends.result.1) c.in-Ok.ensures.stands halves.count halves.ends halves.lanes
          halves.journal);
      limits = subst (λ count. StartsWith c.args.max_errors count c.in_ok-limits.limits) same c.in_ok-limits.ensures;
      many = c.requires.count.1;
      few = c.requires.few;
      some = c.requires.some;
    }

pub returns-clause-keeps : goal.returns-clause-keeps
returns-clause-keeps g c = c.split-ends.ensures.keeps (opening_point c.args.service c.len-count.result) c.in-Ok.ensures.stands

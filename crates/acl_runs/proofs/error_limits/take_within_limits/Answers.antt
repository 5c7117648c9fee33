use Rattle.std.proofs.Common.{length}
use Rattle.acl_broker.specs.Takers.{view}
use Rattle.acl_runs.proofs.TakingLemmas.{inside_of, takes_on_refused, takes_on_fine, takes_on_fewer, takes_on_over}
use Rattle.acl_runs.proofs.error_limits.take_within_limits.Goals as goal

pub returns-in_err-take : goal.returns-in_err-take
returns-in_err-take g c =
    let refused = c.in_err-take.ensures in
    takes_on_refused _ _ _ (view c.args.taker.now) (view c.take.new.self) c.args.limits.now c.args.session c.in_err-take.field-0.0 refused.pairs refused.keeps refused.side refused.others

pub returns-then-not-newest_failed : goal.returns-then-not-newest_failed
returns-then-not-newest_failed g c =
    let taken = c.in_ok-take.ensures in
    takes_on_fine _ _ _ (view c.args.taker.now) (view c.take.new.self) c.args.limits.now c.args.session
    c.in_ok-take.field-0 (inside_of (length (view c.args.taker.now).sides) c.args.session
    c.in_ok-take.field-0 taken.unknown) taken.pairs taken.keeps taken.appended taken.side taken.others
    c.newest_failed.result c.newest_failed.ensures c.if-not-newest_failed.true

pub returns-then-not-count : goal.returns-then-not-count
returns-then-not-count g c =
    let taken = c.in_ok-take.ensures in
    takes_on_fewer _ _ _ (view c.args.taker.now) (view c.take.new.self) c.args.limits.now c.args.session
    c.in_ok-take.field-0 (inside_of (length (view c.args.taker.now).sides) c.args.session
    c.in_ok-take.field-0 taken.unknown) taken.pairs taken.keeps taken.appended taken.side taken.others
    c.newest_failed.result c.newest_failed.ensures
    c.count.new.self c.count.result c.if-not-newest_failed.false c.count.ensures c.if-not-count.true

pub returns : goal.returns
returns g c =
    let taken = c.in_ok-take.ensures in
    takes_on_over _ _ _ (view c.args.taker.now) (view c.take.new.self) c.args.limits.now c.args.session
    c.in_ok-take.field-0 (inside_of (length (view c.args.taker.now).sides) c.args.session
    c.in_ok-take.field-0 taken.unknown) taken.pairs taken.keeps taken.appended taken.side taken.others
    c.newest_failed.result c.newest_failed.ensures
    c.count.new.self c.count.result (view c.cancel.new.self) c.if-not-newest_failed.false c.count.ensures
    c.if-not-count.false c.cancel.ensures.pairs c.cancel.ensures.keeps
    (λ default below. (c.cancel.ensures.side default below).1) c.cancel.ensures.others

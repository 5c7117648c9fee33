use Rattle.std.proofs.Common.{rules, ◌≡◌, ◌∙◌, Some, ap, sym}
use Rattle.acl_listing_queries.specs.RootSteps.{is_apart}
use Rattle.acl_listing_queries.specs.Ways.{beginnings_of}
use Rattle.acl_listing_queries.proofs.BeginningLemmas.{apart_never, apart_newly, apart_still, begun_never, begun_newly, begun_still}
use Rattle.acl_listing_queries.proofs.beginning.Beginning.come_to.Goals as goal

pub returns-then-not-self-clause-apart : goal.returns-then-not-self-clause-apart
returns-then-not-self-clause-apart c = λ earlier here is known path_is. sym (apart_never earlier here c.args.path.now path_is known c.args.self.now is c.if-not-self.true)

pub returns-then-not-self-clause-begun : goal.returns-then-not-self-clause-begun
returns-then-not-self-clause-begun c = λ earlier here is known path_is. begun_never earlier here c.args.path.now path_is known c.args.self.now is c.if-not-self.true

pub returns-then-is_above-clause-apart : goal.returns-then-is_above-clause-apart
returns-then-is_above-clause-apart c = λ earlier here is known path_is.
    sym (apart_still earlier here c.args.path.now path_is known c.args.self.now is c.if-not-self.false (sym c.is_above.ensures ∙ c.if-is_above.true))

pub returns-then-is_above-clause-begun : goal.returns-then-is_above-clause-begun
returns-then-is_above-clause-begun c = λ earlier here is known path_is.
    begun_still earlier here c.args.path.now path_is known c.args.self.now is c.if-not-self.false (sym c.is_above.ensures ∙ c.if-is_above.true)

pub returns-clause-apart : goal.returns-clause-apart
returns-clause-apart c = λ earlier here is known path_is.
    let apart : c.in_ok-apart.apart ≡ is_apart (beginnings_of earlier) here = c.in_ok-apart.ensures.apart (beginnings_of earlier) here (is.roots c.if-not-self.false) path_is in
    apart ∙ apart_newly earlier here c.args.path.now path_is known c.args.self.now is c.if-not-self.false (sym c.is_above.ensures ∙ c.if-is_above.false)

pub returns-clause-begun : goal.returns-clause-begun
returns-clause-begun c = λ earlier here is known path_is.
    let roots = is.roots c.if-not-self.false in
    let apart : c.in_ok-apart.apart ≡ is_apart (beginnings_of earlier) here = c.in_ok-apart.ensures.apart (beginnings_of earlier) here roots path_is in
    let own : c.in_ok-outermost.outermost.items ≡ c.args.path.now = search rules in
    begun_newly earlier here c.args.path.now path_is known c.args.self.now is c.if-not-self.false (sym c.is_above.ensures ∙ c.if-is_above.false)
    (record { path = Some c.in_ok-outermost.outermost; apart = c.in_ok-apart.apart; roots = c.add.new.self }) apart
    (c.in_ok-apart.ensures.added (beginnings_of earlier) here roots path_is) (ap Some own)

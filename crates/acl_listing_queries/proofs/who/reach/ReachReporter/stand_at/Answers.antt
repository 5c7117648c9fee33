use Rattle.std.proofs.Common.{refl}
use Rattle.acl_listing_queries.proofs.who.reach.ReachReporter.stand_at.Goals as goal

pub returns-clause-before : goal.returns-clause-before
returns-clause-before c = (record { path = c.in_ok-path.path; place = c.args.place }, c.in_ok-path.ensures.items, refl, refl)

use Rattle.acl_listing_queries.proofs.who.reach.ReachReporterBlockReporter.push.Goals as goal

pub returns-in-None-clause-part : goal.returns-in-None-clause-part
returns-in-None-clause-part c = λ earlier on. c.push_lost.ensures.reported earlier on c.args.out.now.items

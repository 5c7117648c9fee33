use Rattle.std.proofs.Common.{◌≡◌}
use Rattle.acl_people.specs.Host.{names_of_host}
use Rattle.acl_listing_reach.specs.AnsweredSteps.{IsAnsweredTo}
use Rattle.acl_listing_reach.proofs.answered.answer_each.Given as goal

-- the blocks so far are answered
abbrev pub invariant-loop : goal.invariant-loop
invariant-loop g l = record {
  same : g.T.BlockReporter.part l.reporter ≡ g.T.BlockReporter.part l.fn.reporter;
  same_strangers : g.T.BlockReporter.stranger l.reporter ≡ g.T.BlockReporter.stranger l.fn.reporter;
  answered : IsAnsweredTo (g.T.BlockReporter.Stands l.reporter) (g.T.BlockReporter.part l.fn.reporter) (g.T.BlockReporter.stranger l.fn.reporter) l.name (names_of_host l.host)
      l.fn.blocks.coming l.blocks.coming l.answered.known l.answered.said.items l.answered.counts;
}

use Rattle.acl_listing_queries.proofs.RootLemmas.{last_of}
use Rattle.acl_listing_queries.proofs.roots.Roots.last_before.Goals as goal

pub returns : goal.returns
returns c = last_of c.args.self.now.paths c.args.root.now c.range.result c.next_back.new.self c.next_back.result (c.range.ensures.between tt) (c.range.ensures.in_range tt) c.next_back.ensures.steps

use Rattle.acl_listing_queries.proofs.RootLemmas.{first_of}
use Rattle.acl_listing_queries.proofs.roots.Roots.first_behind.Goals as goal

pub returns : goal.returns
returns c = first_of c.args.self.now.paths c.args.root.now c.range.result c.next.new.self c.next.result (c.range.ensures.between tt) (c.range.ensures.in_range tt) c.next.ensures.steps

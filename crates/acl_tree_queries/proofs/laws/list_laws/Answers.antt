use Rattle.acl_tree_queries.proofs.KnownWayLemmas.{lists_have_known_ways}
use Rattle.acl_tree_queries.proofs.PreOrderLemmas.{lists_are_in_pre_order}
use Rattle.acl_tree_queries.proofs.laws.list_laws.Goals as goal

pub returns : goal.returns
returns c = record { order = lists_are_in_pre_order; ways = lists_have_known_ways }

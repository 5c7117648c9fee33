use Rattle.acl_tree_queries.proofs.ListLemmas.{printable_at}
use Rattle.acl_tree_queries.proofs.list_command.text.push_node.Goals as goal

pub returns-clause-printable : goal.returns-clause-printable
returns-clause-printable c =
    printable_at (c.args.path.now, c.args.node.now) c.requires c.push_header.ensures.owner_is c.push_header.ensures.group_is c.in_ok-push_lists.ensures.printable

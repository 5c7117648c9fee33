use Rattle.acl_bridge.proofs.ListsFound.{whole_found}
use Rattle.acl_bridge.proofs.lists.between_posix_lists.Goals as goal

pub returns-in-None : goal.returns-in-None
returns-in-None c =
    whole_found c.args.owners.now c.args.other_owners.now c.whole_request_difference.result c.args.before.now c.args.after.now
    (c.in_ok-difference.ensures.none.0 c.in-None.is) c.whole_request_difference.ensures

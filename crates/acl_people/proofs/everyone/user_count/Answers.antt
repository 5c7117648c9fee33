use Rattle.acl_people.proofs.PeopleLemmas.{accounts_count}
use Rattle.acl_people.proofs.everyone.user_count.Goals as goal

pub returns : goal.returns
returns c = rw c.users.ensures.list (accounts_count c.args.accounts.now)

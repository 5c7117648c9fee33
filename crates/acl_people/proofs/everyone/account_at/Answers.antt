use Rattle.std.proofs.Common.{◌∙◌, arith}
use Rattle.std.proofs.lemmas.Result.{IfOk-weaker}
use Rattle.acl_accounts.specs.Accounts.{KnownAccount}
use Rattle.acl_people.proofs.PeopleLemmas.{nobody_there, user_there}
use Rattle.acl_people.proofs.everyone.account_at.Goals as goal

pub returns-in_default : goal.returns-in_default
returns-in_default c =
    let known = c.args.accounts.now in
    let past = rw c.users.ensures.list at c.in_default.ensures.lookup in
    nobody_there (λ (user : KnownAccount). user.name) known.users known.requesters c.args.place (omega (arith, past))

pub returns : goal.returns
returns c =
    let known = c.args.accounts.now in
    let found = rw c.users.ensures.list at c.in-Some.ensures.lookup in
    let is = user_there (λ (user : KnownAccount). user.name) known.users known.requesters c.args.place c.in-Some.user.now (omega (arith, found)) found.1 in
    IfOk-weaker c.listed_at.result _ _ (λ made said. said ∙ rw (c.name.ensures, c.requesters.ensures.list) is) c.listed_at.ensures

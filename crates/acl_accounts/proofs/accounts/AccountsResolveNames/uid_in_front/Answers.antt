use Rattle.std.proofs.Common.{sym}
use Rattle.acl_accounts.specs.Accounts.{uid_of}
use Rattle.acl_accounts.proofs.FrontLemmas.{account_front}
use Rattle.acl_accounts.proofs.accounts.AccountsResolveNames.uid_in_front.Goals as goal

pub returns : goal.returns
returns c =
    account_front (uid_of c.args.self.now) c.args.text.now c.in_ok-number.number c.in_ok-uid.uid c.in_ok-number.rest.now
    c.in_ok-number.ensures (sym c.in_ok-uid.ensures)

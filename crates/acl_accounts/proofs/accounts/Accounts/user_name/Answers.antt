use Rattle.std.proofs.Common.{◌≡◌, ◌∙◌, ◌==◌, Some, subst, sym, ap}
use Rattle.std.specs.List.{find}
use Rattle.acl_accounts.specs.Accounts.{KnownAccount, KnownAccounts, uid_of}
use Rattle.acl_accounts.proofs.PlaceLemmas.{uid_again}
use Rattle.acl_accounts.proofs.accounts.Accounts.user_name.Goals as goal

pub returns-in-Some-clause-again : goal.returns-in-Some-clause-again
returns-in-Some-clause-again c =
    let known = c.args.self.now in
    let user = c.in-Some.user.now in
    let found : find (λ (one : KnownAccount). one.uid == c.args.uid) known.users ≡ Some user =
    sym (subst (λ (other : KnownAccounts). Some user ≡ find (λ (one : KnownAccount). one.uid == c.args.uid) other.users) c.self.view_is
    (rw (c.deref.ensures.value, c.value.ensures.value) at c.in-Some.ensures)) in
    ap (uid_of known) c.name.ensures ∙ uid_again known (rw c.self.view_is at c.self.invariant).ordered c.args.uid user found

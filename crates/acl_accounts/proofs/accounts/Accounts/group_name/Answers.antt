use Rattle.std.proofs.Common.{◌≡◌, ◌∙◌, ◌==◌, Some, subst, sym, ap}
use Rattle.std.specs.List.{find}
use Rattle.acl_accounts.specs.Accounts.{KnownAccountGroup, KnownAccounts, gid_of}
use Rattle.acl_accounts.proofs.PlaceLemmas.{gid_again}
use Rattle.acl_accounts.proofs.accounts.Accounts.group_name.Goals as goal

pub returns-in-Some-clause-again : goal.returns-in-Some-clause-again
returns-in-Some-clause-again c =
    let known = c.args.self.now in
    let group = c.in-Some.group.now in
    let found : find (λ (one : KnownAccountGroup). one.gid == c.args.gid) known.groups ≡ Some group =
    sym (subst (λ (other : KnownAccounts). Some group ≡ find (λ (one : KnownAccountGroup). one.gid == c.args.gid) other.groups) c.self.view_is
    (rw (c.deref.ensures.value, c.value.ensures.value) at c.in-Some.ensures)) in
    ap (gid_of known) c.name.ensures ∙ gid_again known (rw c.self.view_is at c.self.invariant).ordered c.args.gid group found

use Rattle.std.proofs.Common.{◌≡◌, ◌∙◌, List, Option, None, IfSome, ap, option_map, subst, sym, ℕ}
use Rattle.acl_names.specs.Names.{BeginsWithId}
use Rattle.acl_accounts.specs.Accounts.{KnownAccounts, gid_of}
use Rattle.acl_people.specs.Host.{Host, names_of_host}
use Rattle.acl_people.proofs.host.HostResolveNames.gid_in_front.Goals as goal

-- a host of these accounts, with this domain
abbrev host-by : KnownAccounts → Option (List ℕ) → Host
host-by accounts domain = record { accounts = accounts; domain = domain }

pub returns-in-None : goal.returns-in-None
returns-in-None c =
    let is : host-by c.self.inside.accounts None ≡ c.args.self.now =
    ap (λ domain. host-by c.self.inside.accounts
    (option_map (λ bytes. bytes.items) domain)) (sym c.in-None.is) ∙ c.self.view_is in
    subst (λ (host : Host). IfSome c.gid_in_front.result (λ front.
    BeginsWithId (names_of_host host).written (gid_of host.accounts)
    c.args.text.now front.0 front.1.now)) is
    c.gid_in_front.ensures

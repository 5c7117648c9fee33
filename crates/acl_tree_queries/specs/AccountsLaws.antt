-- That users, by what `accounts` prints, are in the groups that the tree's directory has them in.
use Rattle.std.specs.Prelude.{◌≡◌, ℕ, List, [], ◌∷◌, Option, Some, Ok, IsSomeAnd, slice_get}
use Rattle.std.specs.Option.{option_and_then}
use Rattle.acl_names.specs.Directory.{Known, KnownUser, requester_of, user_named}
use Rattle.acl_names.specs.Ids.{Name}
use Rattle.acl_names.specs.Requester.{Identity, is_in_group}
use Rattle.acl_names.specs.declared.limits.TheConstants.{NOBODY}
use Rattle.acl_accounts.specs.Accounts.{AreOf, KnownAccounts, place_of_written, rows_within}
use Rattle.acl_accounts.specs.Rows.{Rows}
use Rattle.acl_tree.specs.Tree.{NodesUnderUmask}
use Rattle.acl_tree_queries.specs.AccountsAnswer.{IsAccounts}

-- the accounts that are read of a text
pub record AreReadOf (text : List ℕ) (accounts : KnownAccounts) : Type 0 where
  pub rows : Rows
  pub read : rows_within text ≡ Ok rows
  pub are : AreOf rows accounts

-- the user of a name, as one who asks
abbrev pub asks_as : KnownAccounts → List ℕ → Option Identity
asks_as accounts name =
    option_and_then (slice_get accounts.requesters) (place_of_written accounts (Name name))

-- who is in no group is in nobody's
abbrev pub or_nobody : List ℕ → List ℕ
or_nobody [] = NOBODY ∷ []
or_nobody (gid ∷ gids) = gid ∷ gids

abbrev pub with_group : Identity → Identity
with_group who = record { uid = who.uid; gids = or_nobody who.gids }

-- the same uid, and the same groups
pub record IsSameRequester (one other : Identity) : Type 0 where
  pub uid : one.uid ≡ other.uid
  pub groups : (gid : ℕ) → is_in_group one gid ≡ is_in_group other gid

-- Whoever has a name in a directory, and is asked about by accounts that are read of what
-- `accounts` prints of it, has the directory's uid and groups.
abbrev pub UsersAskAlike : Type 0
UsersAskAlike = (known : Known) (tree : NodesUnderUmask) (text : List ℕ) (accounts : KnownAccounts)
    → IsAccounts known tree text → AreReadOf text accounts
    → (name : List ℕ) (user : KnownUser) → user_named known name ≡ Some user
    → IsSomeAnd (asks_as accounts name) (λ who.
    IsSameRequester who (with_group (requester_of known user.uid)))

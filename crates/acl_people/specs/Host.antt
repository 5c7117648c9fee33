-- Who there is: the users and groups of a host.
use Rattle.std.specs.Prelude.{◌≡◌, ◌-◌, ℕ, Bool, List, ◌∷◌, ◌++◌, Option, Some, None, Ok, IfSome}
use Rattle.std.specs.Prelude.{bytes_eq, codes, drop, if◌then◌else◌, is_none, length, option_map}
use Rattle.std.specs.Prelude.{take, unwrap_or}
use Rattle.std.specs.Option.{option_and_then}
use Rattle.clap.specs.Words.{Row, Text, first_of}
use Rattle.acl_names.specs.Bytes.{newline}
use Rattle.acl_names.specs.Names.{Names}
use Rattle.acl_accounts.specs.Accounts.{AreOf, KnownAccounts, gid_of, group_name, rows_within}
use Rattle.acl_accounts.specs.Accounts.{uid_of, user_name}
use Rattle.acl_accounts.specs.Names.{written_account}
use Rattle.acl_accounts.specs.Rows.{Rows}

-- the users and groups, and the domain in which a name may stand, if one is known
pub record Host : Type 0 where
  pub accounts : KnownAccounts
  pub domain : Option (List ℕ)

-- what stands before an end, if the text ends so
abbrev pub before_end : List ℕ → List ℕ → Option (List ℕ)
before_end end text = if bytes_eq (drop (length text - length end) text) end
    then Some (take (length text - length end) text) else None

-- the name of `NAME@DOMAIN`
abbrev pub before_domain : List ℕ → List ℕ → Option (List ℕ)
before_domain domain text = option_and_then (before_end (codes "@")) (before_end domain text)

-- the name of a text that stands in the domain; any other text is itself
abbrev pub by_itself : Option (List ℕ) → List ℕ → List ℕ
by_itself (Some domain) text = unwrap_or (before_domain domain text) text
by_itself None text = text

-- how texts write users and groups, and who is meant
abbrev pub names_of_host : Host → Names
names_of_host host = record {
  written = λ text. written_account (by_itself host.domain text);
  uid = uid_of host.accounts;
  gid = gid_of host.accounts;
}

-- no user has the uid; and no group has the gid
abbrev pub lacks_user : Host → ℕ → Bool
lacks_user host uid = is_none (user_name host.accounts uid)

abbrev pub lacks_group : Host → ℕ → Bool
lacks_group host gid = is_none (group_name host.accounts gid)

-- the files of this host's own accounts
abbrev pub users_file : Text
users_file = codes "/etc/passwd"

abbrev pub groups_file : Text
groups_file = codes "/etc/group"

-- their texts as one, if both are known
abbrev pub as_one_text : Option (List ℕ) → Option (List ℕ) → Option (List ℕ)
as_one_text users groups =
    option_and_then (λ first. option_map (λ second. first ++ newline ∷ second) groups) users

abbrev pub own_text : (Text → Option (List ℕ)) → Option (List ℕ)
own_text bytes_of = as_one_text (bytes_of users_file) (bytes_of groups_file)

-- the accounts are those of a text, which is the known one if it is known
pub record ReadsAsAccounts (known : Option (List ℕ)) (accounts : KnownAccounts) : Type 0 where
  pub text : List ℕ
  pub text_is : IfSome known (λ those. text ≡ those)
  pub rows : Rows
  pub rows_are : rows_within text ≡ Ok rows
  pub accounts_are : AreOf rows accounts

-- those of the file of this name, or else the host's own
abbrev pub AreAccountsBy : (Text → Option (List ℕ)) → Option Text → KnownAccounts → Type 0
AreAccountsBy bytes_of (Some name) accounts = ReadsAsAccounts (bytes_of name) accounts
AreAccountsBy bytes_of None accounts = ReadsAsAccounts (own_text bytes_of) accounts

-- who there is by the files and the domain that the words name
pub record IsHost (bytes_of : Text → Option (List ℕ)) (rows : List Row) (host : Host) : Type 0 where
  pub accounts : AreAccountsBy bytes_of (first_of (codes "accounts") rows) host.accounts
  pub domain : host.domain ≡ first_of (codes "domain") rows

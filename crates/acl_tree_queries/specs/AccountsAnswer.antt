-- What `accounts` answers.
use Rattle.std.specs.Prelude.{◌≡◌, ℕ, List, None, Ok, Option}
use Rattle.clap.specs.Words.{Row, Text}
use Rattle.acl_names.specs.Directory.{Known, fault_of}
use Rattle.acl_accounts.specs.Rows.{rows_of}
use Rattle.acl_accounts.specs.Text.{rows_text}
use Rattle.acl_cli.specs.Commands.{Meaning}
use Rattle.acl_tree.specs.Tree.{NodesUnderUmask}
use Rattle.acl_tree_queries.specs.AccountsText.{rows_of_known}
use Rattle.acl_tree_queries.specs.TreeMeaning.{IsNeverRefused, tree_meaning}

-- the text has the users and groups of the directory, with which nothing is wrong, and is read as
-- them
pub record IsAccounts (known : Known) (tree : NodesUnderUmask) (text : List ℕ) : Type 0 where
  pub faultless : fault_of known ≡ None
  pub text_is : text ≡ rows_text (rows_of_known known)
  pub read_is : rows_of text ≡ Ok (rows_of_known known)

-- what the fields of `accounts` mean
abbrev pub accounts_meaning : (Text → Option (List ℕ)) → Option (List ℕ) → List Row → Meaning
accounts_meaning = tree_meaning IsAccounts IsNeverRefused

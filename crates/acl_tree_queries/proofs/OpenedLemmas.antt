-- The trees that a setup opens have a root alone.
use Rattle.std.proofs.Common.{◌≡◌, ℕ, List, Result, Ok, Err}
use Rattle.acl_names.specs.Directory.{Known}
use Rattle.acl_posix.specs.Mode.{Classes}
use Rattle.acl_tree.specs.Commands.{root_alone}
use Rattle.acl_tree.specs.Tree.{NodesUnderUmask}
use Rattle.acl_bridge.specs.declared.style.Style.{Style}
use Rattle.acl_setup.specs.Opened.{IsOpened, Opened, Opens, opened_in}
use Rattle.acl_setup.specs.declared.fault.SetupError.{SetupError}

-- a tree of the root alone
pub record IsRootAlone (tree : NodesUnderUmask) : Type 0 where
  pub owner : ℕ
  pub group : ℕ
  pub mode : Classes
  pub style : Style
  pub umask : Classes
  pub is : tree ≡ root_alone owner group mode style umask

pub opens_a_root_alone : (bytes : List ℕ) (directory : Known) (tree : NodesUnderUmask) → Opens bytes directory tree → IsRootAlone tree
opens_a_root_alone bytes directory tree opens = by (opened_in opens.0) opens.2
  where
    by : (reading : Result Opened SetupError) → IsOpened reading directory tree → IsRootAlone tree
    by (Err error) is = absurd is
    by (Ok opened) is = record { owner = opened.owner; group = opened.group; mode = opened.mode; style = opened.style; umask = opened.umask; is = is.1 }

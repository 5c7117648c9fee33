-- The tree that words name: that of a setup, or what sessions leave on it.
use Rattle.std.specs.Prelude.{◌≡◌, ℕ, List, [], ◌∷◌, Option, Vec, codes}
use Rattle.std.specs.declared.alloc.Global.{Global}
use Rattle.clap.specs.Words.{Row, Text}
use Rattle.acl_names.specs.Directory.{Known}
use Rattle.acl_tree.specs.Tree.{NodesUnderUmask}
use Rattle.acl_lang.specs.Texts.{requests_of}
use Rattle.acl_setup.specs.Opened.{Opens}
use Rattle.acl_service.specs.Runs.{tree_after}
use Rattle.acl_cli.specs.SessionFiles.{HasBytes, HaveBytes, input_count, names_in, setup_in}

-- the names of the sessions, and how many of them are standard input
abbrev pub sessions_in : List Row → List Text
sessions_in rows = names_in (codes "session") rows

abbrev pub inputs_in : List Row → ℕ
inputs_in rows = input_count (sessions_in rows)

-- the tree that sessions with these texts leave, one after the other
abbrev pub tree_left : Known → NodesUnderUmask → List (Vec ℕ Global) → NodesUnderUmask
tree_left known tree [] = tree
tree_left known tree (text ∷ texts) =
    tree_left known (tree_after known tree (requests_of known text.items)) texts

-- The files that the words name give this directory and this tree: the sessions leave it on what
-- the setup opens.
pub record IsSetupTree (bytes_of : Text → Option (List ℕ)) (input : Option (List ℕ))
    (rows : List Row) (directory : Known) (tree : NodesUnderUmask) : Type 0 where
  pub setup : List ℕ
  pub sessions : List (Vec ℕ Global)
  pub setup_is : HasBytes (bytes_of (setup_in rows)) setup
  pub sessions_are : HaveBytes bytes_of input (sessions_in rows) sessions
  pub new : NodesUnderUmask
  pub opened : Opens setup directory new
  pub left : tree ≡ tree_left directory new sessions

-- That the text of a dump, run over the same setup, makes the tree again.
use Rattle.std.specs.Prelude.{◌≡◌, ℕ, List, Option}
use Rattle.clap.specs.Words.{Row, Text}
use Rattle.acl_names.specs.Directory.{Known}
use Rattle.acl_lang.specs.Texts.{requests_of}
use Rattle.acl_service.specs.Runs.{tree_after}
use Rattle.acl_tree.specs.Tree.{NodesUnderUmask}
use Rattle.acl_tree_queries.specs.DumpAnswer.{IsDump}
use Rattle.acl_tree_queries.specs.SetupTree.{IsSetupTree}

-- Whatever files the words name: if a text is what `dump` answers of the tree that the session
-- leaves on the one that the setup opens, a session with this text, over that setup, leaves this
-- very tree.
abbrev pub DumpsMakeTheTreeAgain : Type 0
DumpsMakeTheTreeAgain =
    (bytes_of : Text → Option (List ℕ)) (input : Option (List ℕ)) (rows : List Row)
    (known : Known) (tree : NodesUnderUmask) (text : List ℕ)
    (files : IsSetupTree bytes_of input rows known tree)
    → IsDump known tree text → tree_after known files.new (requests_of known text) ≡ tree

-- What `dump` answers.
use Rattle.std.specs.Prelude.{◌≡◌, ℕ, List, All, Option}
use Rattle.clap.specs.Words.{Row, Text}
use Rattle.acl_names.specs.Directory.{Known}
use Rattle.acl_audit.specs.Dump.{make_commands}
use Rattle.acl_cli.specs.Commands.{Meaning}
use Rattle.acl_tree.specs.Tree.{NodesUnderUmask}
use Rattle.acl_tree_queries.specs.DumpText.{HasLongLine, IsDumped, dump_text}
use Rattle.acl_tree_queries.specs.TreeMeaning.{tree_meaning}

-- the session that makes the tree again, no line of which is too long
pub record IsDump (directory : Known) (tree : NodesUnderUmask) (text : List ℕ) : Type 0 where
  pub text_is : text ≡ dump_text tree
  pub dumped : All IsDumped (make_commands tree)

-- the tree has no dump: a line would be longer than lines may be
abbrev pub HasNoDump : NodesUnderUmask → Type 0
HasNoDump tree = HasLongLine (make_commands tree)

-- what the fields of `dump` mean
abbrev pub dump_meaning : (Text → Option (List ℕ)) → Option (List ℕ) → List Row → Meaning
dump_meaning = tree_meaning IsDump HasNoDump

-- What `list` answers.
use Rattle.std.specs.Prelude.{◌≡◌, ℕ, List, Option, Some, map as each}
use Rattle.clap.specs.Words.{Row, Text}
use Rattle.acl_names.specs.Directory.{Known}
use Rattle.acl_listings.specs.Block.{FileValue, path_of as text_path}
use Rattle.acl_listings.specs.FileFlags.{no_flags}
use Rattle.acl_listings.specs.Listing.{blocks_of}
use Rattle.acl_listings.specs.Numbered.{SaysFiles}
use Rattle.acl_listings.specs.declared.lists.Lists.{Lists}
use Rattle.acl_listings.specs.declared.lists.Lists.TheVariants as lists
use Rattle.acl_tree.specs.Entries.{Entry, path_of}
use Rattle.acl_tree.specs.Tree.{NodesUnderUmask}
use Rattle.acl_tree.specs.Walk.{IsWalk}
use Rattle.acl_tree.specs.declared.node_acl.NodeAcl.{NodeAcl}
use Rattle.acl_tree.specs.declared.node_acl.NodeAcl.TheVariants.{Posix, Nfs4}
use Rattle.acl_cli.specs.Commands.{Meaning}
use Rattle.acl_tree_queries.specs.TreeMeaning.{IsNeverRefused, tree_meaning}

abbrev pub lists_of : NodeAcl → Lists
lists_of (Posix access default) = lists.Posix access default
lists_of (Nfs4 acl) = lists.Nfs4 acl

-- a node as a file of a listing
abbrev pub file_at : Entry → FileValue
file_at entry = record {
  path = entry.0;
  owner = entry.1.owner;
  group = entry.1.group;
  flags = no_flags;
  lists = lists_of entry.1.acl;
}

-- the blocks of a text have the paths of these nodes, whether or not they are refused
abbrev pub HasPathsOf : List Entry → List ℕ → Type 0
HasPathsOf entries text = each (λ block. text_path block.text) (blocks_of text)
    ≡ each (λ entry. Some (path_of entry)) entries

-- the text says the nodes of the tree, each with its path, its owners and its lists
abbrev pub IsList : Known → NodesUnderUmask → List ℕ → Type 0
IsList directory tree text = (entries : List Entry) × IsWalk tree entries
    × SaysFiles (each file_at entries) text × HasPathsOf entries text

-- what the fields of `list` mean
abbrev pub list_meaning : (Text → Option (List ℕ)) → Option (List ℕ) → List Row → Meaning
list_meaning = tree_meaning IsList IsNeverRefused

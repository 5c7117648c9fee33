-- The commands that make a tree again, over the tree that it began as.
use Rattle.std.specs.Prelude.{◌≡◌, ℕ, List, [], ◌∷◌, ◌++◌, All, Option, Some, None, codes, bytes_eq}
use Rattle.std.specs.Prelude.{if◌then◌else◌}
use Rattle.std.specs.List.{flat_map}
use Rattle.std.specs.FinMap as map
use Rattle.acl_names.specs.Directory.{Known}
use Rattle.acl_posix.specs.Entry.{EntryValue}
use Rattle.acl_posix.specs.Mode.{Classes, of_mode}
use Rattle.acl_tree.specs.Commands.{root_alone}
use Rattle.acl_tree.specs.Entries.{Entry}
use Rattle.acl_tree.specs.Requests.{NamesAPath}
use Rattle.acl_tree.specs.Tree.{NodesUnderUmask}
use Rattle.acl_tree.specs.TreeLaws.{IsMadeByCommands, after_all}
use Rattle.acl_tree.specs.declared.node_acl.NodeAcl.{NodeAcl}
use Rattle.acl_tree.specs.declared.node_acl.NodeAcl.TheVariants.{Posix, Nfs4}
use Rattle.acl_tree.specs.declared.request.Request.{Request}
use Rattle.acl_tree.specs.declared.request.Request.TheVariants.{Create, SetAccess, SetDefault}
use Rattle.acl_tree.specs.declared.request.Request.TheVariants.{SetNfs4}

abbrev pub root : List ℕ
root = codes "/"

-- the mode with which nodes are created, and the list that it makes: nobody may do anything
abbrev pub no_mode : Classes
no_mode = record { user = 0; group = 0; other = 0 }

abbrev pub closed_list : List EntryValue
closed_list = of_mode no_mode

-- `set / access u::-,g::-,o::-`, under which nothing that is created inherits
abbrev pub close_command : Request
close_command = SetAccess root closed_list

-- `create KIND P UID 000`, of each node but the root
abbrev pub creation : Entry → List Request
creation entry = if bytes_eq entry.0 root then []
    else Create entry.1.kind entry.0 entry.1.owner no_mode ∷ []

-- `set P default TEXT`, if there is such a list
abbrev pub set_default : List ℕ → Option (List EntryValue) → List Request
set_default path None = []
set_default path (Some default) = SetDefault path (Some default) ∷ []

-- the commands that give a node its lists
abbrev pub set_lists : List ℕ → NodeAcl → List Request
set_lists path (Posix access default) = SetAccess path access ∷ set_default path default
set_lists path (Nfs4 acl) = SetNfs4 path acl ∷ []

abbrev pub set_commands : Entry → List Request
set_commands entry = set_lists entry.0 entry.1.acl

-- each node created, then each given its lists, in the order of the paths
abbrev pub make_commands_of : List Entry → List Request
make_commands_of entries = flat_map creation entries ++ flat_map set_commands entries

abbrev pub make_commands : NodesUnderUmask → List Request
make_commands tree = make_commands_of (map.entries tree.nodes)

-- the root closed, and then the nodes made
abbrev pub dump_of : List Entry → List Request
dump_of entries = close_command ∷ make_commands_of entries

abbrev pub dump : NodesUnderUmask → List Request
dump tree = close_command ∷ make_commands tree

-- Over the tree that commands began with, the dump of the tree that they made makes it again.
abbrev pub DumpsMakeTheTree : Type 0
DumpsMakeTheTree =
    (directory : Known) (tree : NodesUnderUmask) (made : IsMadeByCommands directory tree)
    → All NamesAPath made.requests
    → after_all directory (root_alone made.owner made.group made.mode made.style made.umask)
    (dump tree) ≡ tree

-- What holds for every tree that commands make from a new one.
use Rattle.std.specs.Prelude.{◌≡◌, ◌≢◌, ℕ, List, Some, All, fold}
use Rattle.acl_names.specs.Directory.{Known}
use Rattle.acl_posix.specs.Mode.{Classes}
use Rattle.acl_tree.specs.Apply.{next}
use Rattle.acl_tree.specs.Commands.{root_alone}
use Rattle.acl_tree.specs.Requests.{NamesAPath, path_of}
use Rattle.acl_tree.specs.Shape.{FilesHaveNoDefault, NodesLieInDirectories, NodesAreAtPaths}
use Rattle.acl_tree.specs.Shape.{IsWithinLimit, KeepsNodes, IsSameAt}
use Rattle.acl_tree.specs.Tree.{NodesUnderUmask}
use Rattle.acl_bridge.specs.declared.style.Style.{Style}
use Rattle.acl_tree.specs.declared.request.Request.{Request}

-- the tree after all of the commands, one after the other
abbrev pub after_all : Known → NodesUnderUmask → List Request → NodesUnderUmask
after_all directory tree requests = fold (next directory) tree requests

-- the tree is a new one after some commands
pub record IsMadeByCommands (directory : Known) (tree : NodesUnderUmask) : Type 0 where
  pub owner : ℕ
  pub group : ℕ
  pub mode : Classes
  pub style : Style
  pub umask : Classes
  pub requests : List Request
  pub made : tree ≡ after_all directory (root_alone owner group mode style umask) requests

-- for every tree that commands make
abbrev pub EachMadeTree : (NodesUnderUmask → Type 0) → Type 0
EachMadeTree P = (directory : Known) (tree : NodesUnderUmask) → IsMadeByCommands directory tree
    → P tree

-- no file has a default list
abbrev pub FilesNeverHaveADefault : Type 0
FilesNeverHaveADefault = EachMadeTree FilesHaveNoDefault

-- the parent of each path exists, and is a directory
abbrev pub ParentsAreDirectories : Type 0
ParentsAreDirectories = EachMadeTree NodesLieInDirectories

-- there are never more nodes than there may be
abbrev pub TreesAreWithinTheLimit : Type 0
TreesAreWithinTheLimit = EachMadeTree IsWithinLimit

-- nodes are only at well-formed paths, if the commands name only such paths
abbrev pub TreesHavePathsAlone : Type 0
TreesHavePathsAlone =
    (directory : Known) (tree : NodesUnderUmask) (made : IsMadeByCommands directory tree)
    → All NamesAPath made.requests → NodesAreAtPaths tree

-- the umask is that of the new tree
abbrev pub TheUmaskStays : Type 0
TheUmaskStays = (directory : Known) (tree : NodesUnderUmask)
    (made : IsMadeByCommands directory tree) → tree.umask ≡ made.umask

-- whatever commands follow, a node stays, and so do its kind, its owner and its group
abbrev pub NodesStay : Type 0
NodesStay = (directory : Known) (tree : NodesUnderUmask) (requests : List Request)
    → KeepsNodes tree (after_all directory tree requests)

-- commands at other paths don't change the node at this one
abbrev pub OtherCommandsLeaveANode : Type 0
OtherCommandsLeaveANode =
    (directory : Known) (tree : NodesUnderUmask) (requests : List Request) (path : List ℕ)
    → All (λ request. path_of request ≢ Some path) requests
    → IsSameAt path tree (after_all directory tree requests)

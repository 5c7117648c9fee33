-- What holds for every tree that commands make, and what its nodes keep.
use Rattle.std.specs.Prelude.{◌≡◌, ℕ, ◌≤◌, true, List, Option, Some, None, IsSomeAnd}
use Rattle.std.specs.FinMap as map
use Rattle.acl_nfs4.specs.declared.inheritance.Kind.TheVariants.{File, Dir}
use Rattle.acl_tree.specs.NodeAcls.{default_of}
use Rattle.acl_tree.specs.Path.{is_path, parent}
use Rattle.acl_tree.specs.Tree.{NodesUnderUmask}
use Rattle.acl_tree.specs.declared.limits.TheConstants.{MAX_NODES}
use Rattle.acl_tree.specs.declared.node.Node.{Node}

-- each node of the tree, with its path
abbrev pub EachNode : NodesUnderUmask → (List ℕ → Node → Type 0) → Type 0
EachNode tree P = (path : List ℕ) (node : Node) → map.get tree.nodes path ≡ Some node → P path node

-- a file has no default list
abbrev pub HasNoDefaultOnFile : Node → Type 0
HasNoDefaultOnFile node = node.kind ≡ File → default_of node.acl ≡ None

abbrev pub FilesHaveNoDefault : NodesUnderUmask → Type 0
FilesHaveNoDefault tree = EachNode tree (λ path node. HasNoDefaultOnFile node)

-- there is a node, and it is a directory
abbrev pub IsDirectory : Option Node → Type 0
IsDirectory found = IsSomeAnd found (λ node. node.kind ≡ Dir)

-- the parent of each node exists, and is a directory
abbrev pub NodesLieInDirectories : NodesUnderUmask → Type 0
NodesLieInDirectories tree = EachNode tree (λ path node. IsDirectory
    (map.get tree.nodes (parent path)))

-- nodes are at paths, and nowhere else
abbrev pub NodesAreAtPaths : NodesUnderUmask → Type 0
NodesAreAtPaths tree = EachNode tree (λ path node. is_path path ≡ true)

-- there are no more nodes than there may be
abbrev pub IsWithinLimit : NodesUnderUmask → Type 0
IsWithinLimit tree = map.len tree.nodes ≤ MAX_NODES

-- the node is still of the same kind, owner and group
pub record KeepsKindAndOwners (old new : Node) : Type 0 where
  pub kind : new.kind ≡ old.kind
  pub owner : new.owner ≡ old.owner
  pub group : new.group ≡ old.group

-- each node is still there, and of the same kind, owner and group
abbrev pub KeepsNodes : NodesUnderUmask → NodesUnderUmask → Type 0
KeepsNodes old new = EachNode old (λ path node. IsSomeAnd (map.get new.nodes path)
    (KeepsKindAndOwners node))

-- at this path there is the same node, or still none
abbrev pub IsSameAt : List ℕ → NodesUnderUmask → NodesUnderUmask → Type 0
IsSameAt path old new = map.get new.nodes path ≡ map.get old.nodes path

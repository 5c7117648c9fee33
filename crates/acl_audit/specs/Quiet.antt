-- What is never inherited: files have no list from which anything would inherit.
use Rattle.std.specs.Prelude.{◌≡◌, false, List}
use Rattle.acl_nfs4.specs.Ace.{Nfsace4}
use Rattle.acl_nfs4.specs.Inheritance.{has_inheritance}
use Rattle.acl_nfs4.specs.declared.inheritance.Kind.TheVariants.{File}
use Rattle.acl_tree.specs.Shape.{EachNode}
use Rattle.acl_tree.specs.Tree.{NodesUnderUmask}
use Rattle.acl_tree.specs.TreeLaws.{EachMadeTree}
use Rattle.acl_tree.specs.declared.node_acl.NodeAcl.TheVariants.{Nfs4}

-- no file has a list with an entry that something would inherit
abbrev pub FilesInheritNothing : NodesUnderUmask → Type 0
FilesInheritNothing tree = EachNode tree (λ path node. (acl : List Nfsace4) → node.kind ≡ File
    → node.acl ≡ Nfs4 acl → has_inheritance acl ≡ false)

-- in every tree that commands make
abbrev pub FilesNeverInherit : Type 0
FilesNeverInherit = EachMadeTree FilesInheritNothing

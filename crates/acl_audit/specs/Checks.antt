-- What is said of files is what a tree's checks answer.
use Rattle.std.specs.Prelude.{◌≡◌, ◌⊎◌, ◌<◌, ℕ, List, Some, Ok}
use Rattle.std.specs.FinMap as map
use Rattle.acl_names.specs.Bits.{has_all}
use Rattle.acl_names.specs.Directory.{Known, requester_of}
use Rattle.acl_bridge.specs.declared.any_acl.AnyAcl.{AnyAcl}
use Rattle.acl_bridge.specs.declared.any_acl.AnyAcl.TheVariants.{Posix, Nfs4}
use Rattle.acl_access.specs.Changes.{IsAlikeToAll}
use Rattle.acl_access.specs.Letters.{effective}
use Rattle.acl_tree.specs.Commands.{check, granted_or_denied}
use Rattle.acl_tree.specs.NodeAcls.{deciding_list}
use Rattle.acl_tree.specs.Nodes.{file_of}
use Rattle.acl_tree.specs.Tree.{NodesUnderUmask}
use Rattle.acl_tree.specs.TreeLaws.{after_all}
use Rattle.acl_tree.specs.declared.node.Node.{Node}
use Rattle.acl_tree.specs.declared.request.Request.{Request}

-- the letter is among those that are granted exactly if the tree's own check of it is answered
-- `granted`
abbrev pub LetterIsChecked : ℕ → Type 0
LetterIsChecked letter =
    (directory : Known) (tree : NodesUnderUmask) (path : List ℕ) (node : Node) (uid : ℕ)
    → map.get tree.nodes path ≡ Some node
    → check directory tree path uid letter ≡ Ok (granted_or_denied
    (has_all (effective (file_of node) (requester_of directory uid)) letter))

-- the requests that the comparison vouches for: each permission by itself, and between lists of one
-- style every request for something
abbrev pub IsVouchedFor : AnyAcl → AnyAcl → ℕ → Type 0
IsVouchedFor (Posix before) (Posix after) perms = (0 < perms) × (perms < 8)
IsVouchedFor (Nfs4 before) (Nfs4 after) perms = perms < 8
IsVouchedFor _ _ perms = (perms ≡ 4) ⊎ (perms ≡ 2) ⊎ (perms ≡ 1)

-- Where commands leave a node alike for all, the tree answers every check of it as it did before
-- them, whoever the user is.
abbrev pub AlikeNodesAreCheckedAlike : Type 0
AlikeNodesAreCheckedAlike =
    (directory : Known) (tree : NodesUnderUmask) (requests : List Request) (path : List ℕ)
    (old new : Node)
    → map.get tree.nodes path ≡ Some old → map.get (after_all directory tree requests).nodes path
    ≡ Some new
    → IsAlikeToAll (file_of old) (file_of new) → (uid perms : ℕ)
    → IsVouchedFor (deciding_list old.acl) (deciding_list new.acl) perms
    → check directory (after_all directory tree requests) path uid perms
    ≡ check directory tree path uid perms

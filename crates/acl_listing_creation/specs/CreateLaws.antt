-- What `next` prints for a folder, compared with what `create` makes in a tree.
use Rattle.std.specs.Prelude.{◌≡◌, Result, Ok, Err}
use Rattle.acl_posix.specs.Mode.{Classes}
use Rattle.acl_posix.specs.declared.acl_text.AclFault.TheVariants as acl
use Rattle.acl_nfs4.specs.Inheritance.{inherited_list}
use Rattle.acl_listings.specs.declared.fault.BlockFault.{BlockFault}
use Rattle.acl_listings.specs.declared.fault.BlockFault.TheVariants.{Acl}
use Rattle.acl_listings.specs.declared.lists.Lists.{Lists}
use Rattle.acl_listings.specs.declared.lists.Lists.TheVariants as lists
use Rattle.acl_tree.specs.NodeAcls.{acl_at_creation}
use Rattle.acl_tree.specs.Steps.{Outcome}
use Rattle.acl_tree.specs.declared.faults.TreeFault.TheVariants.{TooMany}
use Rattle.acl_tree.specs.declared.node_acl.NodeAcl.{NodeAcl}
use Rattle.acl_tree.specs.declared.node_acl.NodeAcl.TheVariants.{Posix, Nfs4}
use Rattle.acl_listing_creation.specs.Created.{lists_in, mode_on}
use Rattle.acl_listing_creation.specs.declared.creation.Creation.{Creation}

-- a node's lists as those of a file
abbrev pub lists_of : NodeAcl → Lists
lists_of (Posix access default) = lists.Posix access default
lists_of (Nfs4 acl) = lists.Nfs4 acl

-- the mode with which `create` is called: in a folder with an NFSv4 list that passes nothing on,
-- without the umask's bits
abbrev pub mode_called : Creation → NodeAcl → Classes
mode_called creation (Posix access default) = creation.mode
mode_called creation (Nfs4 acl) = mode_on creation (inherited_list creation.kind acl)

-- the lists that `create` makes are those that are printed, and it refuses a list that is too long
-- exactly if `next` does
abbrev pub AreAlike : Outcome NodeAcl → Result Lists BlockFault → Type 0
AreAlike (Ok made) reported = reported ≡ Ok (lists_of made)
AreAlike (Err TooMany) reported = reported ≡ Err (Acl acl.TooMany)
AreAlike (Err fault) reported = ⊥

abbrev pub CreatesAlike : Creation → NodeAcl → Type 0
CreatesAlike creation acl =
    AreAlike (acl_at_creation creation.kind creation.umask acl (mode_called creation acl))
    (lists_in creation (lists_of acl))

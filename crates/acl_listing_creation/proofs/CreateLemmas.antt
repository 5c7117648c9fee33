-- `create` of a tree makes what `next` reports.
use Rattle.std.proofs.Common.{Bool, true, false, cond, List, Ok, Err, length, nat_lt, refl, Some, None}
use Rattle.acl_posix.specs.Entry.{EntryValue}
use Rattle.acl_posix.specs.declared.acl_text.AclFault.TheVariants as acl
use Rattle.acl_nfs4.specs.Ace.{Nfsace4}
use Rattle.acl_nfs4.specs.Inheritance.{inherited_list}
use Rattle.acl_nfs4.specs.ModeChange.{with_mode}
use Rattle.acl_nfs4.specs.declared.inheritance.Kind.{Kind}
use Rattle.acl_nfs4.specs.declared.inheritance.Kind.TheVariants.{File, Dir}
use Rattle.acl_nfs4.specs.declared.limits.TheConstants.{MAX_ACES}
use Rattle.acl_listings.specs.declared.fault.BlockFault.TheVariants.{Acl}
use Rattle.acl_listings.specs.declared.lists.Lists.TheVariants as lists
use Rattle.acl_tree.specs.declared.faults.TreeFault.TheVariants.{TooMany}
use Rattle.acl_tree.specs.declared.node_acl.NodeAcl.{NodeAcl}
use Rattle.acl_tree.specs.declared.node_acl.NodeAcl.TheVariants.{Posix, Nfs4}
use Rattle.acl_listing_creation.specs.Created.{mode_on}
use Rattle.acl_listing_creation.specs.CreateLaws.{AreAlike, CreatesAlike}
use Rattle.acl_listing_creation.specs.declared.creation.Creation.{Creation}

-- a list that is too long is refused by both
short_alike : (aces : List Nfsace4) (b : Bool) → AreAlike (cond b (Err TooMany) (Ok (Nfs4 aces))) (cond b (Err (Acl acl.TooMany)) (Ok (lists.Nfs4 aces)))
short_alike aces true = refl
short_alike aces false = refl

-- a folder takes the default list over, in both
default_alike : (creation : Creation) (access default : List EntryValue) → CreatesAlike creation (Posix access (Some default))
default_alike creation access default = by creation.kind
  where
    by : (kind : Kind) → CreatesAlike (record creation { kind = kind }) (Posix access (Some default))
    by Dir = refl
    by File = refl

pub create_alike : (creation : Creation) (node : NodeAcl) → CreatesAlike creation node
create_alike creation (Posix access None) = refl
create_alike creation (Posix access (Some default)) = default_alike creation access default
create_alike creation (Nfs4 list) =
    let aces = with_mode (inherited_list creation.kind list) (mode_on creation (inherited_list creation.kind list)) in
    short_alike aces (nat_lt MAX_ACES (length aces))

-- Files, as far as they decide access: the owners, and the list, of either style.
use Rattle.std.specs.Prelude.{ℕ, Bool}
use Rattle.acl_names.specs.Requester.{Identity}
use Rattle.acl_posix.specs.Access.{grants}
use Rattle.acl_nfs4.specs.Comparison.{Decider, decided_at}
use Rattle.acl_nfs4.specs.Evaluation.{grants4}
use Rattle.acl_nfs4.specs.Mask.{mask_of}
use Rattle.acl_nfs4.specs.declared.owners.Owners.{Owners}
use Rattle.acl_bridge.specs.Comparison.{granted_at}
use Rattle.acl_bridge.specs.declared.any_acl.AnyAcl.{AnyAcl}
use Rattle.acl_bridge.specs.declared.any_acl.AnyAcl.TheVariants.{Posix, Nfs4}
use Rattle.acl_bridge.specs.declared.any_acl.AnyAclRef.{AnyAclRef}
use Rattle.acl_bridge.specs.declared.any_acl.AnyAclRef.TheVariants as reference
use Rattle.acl_bridge.specs.declared.file_acl.FileAcl.{FileAcl}

-- what decides access to a file: its owners, and its list
pub record File : Type 0 where
  pub owners : Owners
  pub list : AnyAcl

abbrev pub file_with : Owners → AnyAcl → File
file_with owners list = record { owners = owners; list = list }

-- a list, without where it lies in memory
abbrev pub view_list : AnyAclRef → AnyAcl
view_list (reference.Posix acl) = Posix acl.now
view_list (reference.Nfs4 acl) = Nfs4 acl.now

abbrev pub view_acl : FileAcl → File
view_acl file = file_with file.owners (view_list file.list)

-- what a list grants, bit by bit
abbrev pub decider_at : AnyAcl → Owners → Decider
decider_at (Posix acl) owners = granted_at acl owners
decider_at (Nfs4 aces) owners = decided_at aces owners

abbrev pub decider_of : File → Decider
decider_of file = decider_at file.list file.owners

-- whether a list grants the requester the permissions, as a whole
abbrev pub list_grants : AnyAcl → Owners → Identity → ℕ → Bool
list_grants (Posix acl) owners requester perms =
    grants acl owners.owner owners.group requester perms
list_grants (Nfs4 aces) owners requester perms =
    grants4 aces owners.owner owners.group requester (mask_of perms)

abbrev pub may : File → Identity → ℕ → Bool
may file = list_grants file.list file.owners

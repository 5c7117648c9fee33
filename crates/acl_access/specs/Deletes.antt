-- Who may delete, rename or replace a file: as Linux decides, and by RFC 8881, section 6.2.1.3.2.
use Rattle.std.specs.Prelude.{ℕ, ◌==◌, ◌&&◌, ◌||◌, Bool, false, not, Option, None, is_none}
use Rattle.std.specs.Prelude.{unwrap_or}
use Rattle.acl_names.specs.Requester.{Identity}
use Rattle.acl_nfs4.specs.Evaluation.{verdict}
use Rattle.acl_nfs4.specs.Mask.{write_data}
use Rattle.acl_nfs4.specs.Who.{matches}
use Rattle.acl_bridge.specs.Files.{File, may}
use Rattle.acl_bridge.specs.declared.any_acl.AnyAcl.{AnyAcl}
use Rattle.acl_bridge.specs.declared.any_acl.AnyAcl.TheVariants.{Posix, Nfs4}

-- the places of DELETE and DELETE_CHILD among a mask's bits
abbrev pub delete : ℕ
delete = 16

abbrev pub delete_child : ℕ
delete_child = 6

abbrev pub owns : File → Identity → Bool
owns file requester = requester.uid == file.owners.owner

-- whether the first entry with the bit for the requester allows or denies it, if there is one;
-- POSIX lists don't have these bits
abbrev pub said_of : File → Identity → ℕ → Option Bool
said_of file requester bit = by file.list
  where
    by : AnyAcl → Option Bool
    by (Posix acl) = None
    by (Nfs4 aces) = verdict (matches file.owners.owner file.owners.group requester) bit aces

-- whether the folder lets names be added and removed: `w` and `x` at once, or ADD_FILE
abbrev pub adds : File → Identity → Bool
adds folder requester = by folder.list
  where
    by : AnyAcl → Bool
    by (Posix acl) = may folder requester 3
    by (Nfs4 aces) = unwrap_or (said_of folder requester write_data) false

-- the file grants DELETE or the folder DELETE_CHILD; or neither is granted or denied, and it is
-- granted otherwise
abbrev pub deletes_by : Option Bool → Option Bool → Bool → Bool
deletes_by file child otherwise = (unwrap_or file false || unwrap_or child false)
    || (is_none file && is_none child && otherwise)

-- Whether a requester who reaches the folder's content may delete the file in it: also if the
-- folder lets names be added, but with the sticky bit only if the requester owns the file or the
-- folder.
abbrev pub deletes : Bool → File → File → Identity → Bool
deletes sticky folder file requester =
    deletes_by (said_of file requester delete) (said_of folder requester delete_child)
    (adds folder requester && (not sticky || owns folder requester || owns file requester))

-- What a user gets by creating a file or a folder in a folder of a listing.
use Rattle.std.specs.Prelude.{ℕ, Bool, ◌+◌, ◌-◌, nat_le, nat_lt, List, [], ◌∷◌}
use Rattle.std.specs.Prelude.{◌++◌, length, drop, Some, None, Result, Ok, Err, bytes_eq}
use Rattle.std.specs.Prelude.{codes, if◌then◌else◌}
use Rattle.acl_names.specs.Bytes.{newline}
use Rattle.acl_names.specs.Steps.{◌>>=◌}
use Rattle.acl_posix.specs.Mode.{Classes, at_creation, of_mode}
use Rattle.acl_posix.specs.declared.acl_text.AclFault.TheVariants.{TooMany}
use Rattle.acl_nfs4.specs.Ace.{Nfsace4}
use Rattle.acl_nfs4.specs.Inheritance.{inherited_list}
use Rattle.acl_nfs4.specs.ModeChange.{with_mode}
use Rattle.acl_nfs4.specs.declared.inheritance.Kind.{Kind}
use Rattle.acl_nfs4.specs.declared.inheritance.Kind.TheVariants.{File, Dir}
use Rattle.acl_nfs4.specs.declared.limits.TheConstants.{MAX_ACES}
use Rattle.acl_tree.specs.NodeAcls.{beyond_umask, default_below}
use Rattle.acl_listings.specs.Block.{FileValue}
use Rattle.acl_listings.specs.FileFlags.{no_flags}
use Rattle.acl_listings.specs.Numbered.{header_text, lists_text}
use Rattle.acl_listings.specs.Printed.{line_text}
use Rattle.acl_listings.specs.declared.fault.BlockFault.{BlockFault}
use Rattle.acl_listings.specs.declared.fault.BlockFault.TheVariants.{Acl, TooLong}
use Rattle.acl_listings.specs.declared.file_flags.FileFlags.{FileFlags}
use Rattle.acl_listings.specs.declared.limits.TheConstants.{MAX_BLOCK}
use Rattle.acl_listings.specs.declared.lists.Lists.{Lists}
use Rattle.acl_listings.specs.declared.lists.Lists.TheVariants.{Posix, Nfs4}
use Rattle.acl_reports.specs.Listed.{Part}
use Rattle.acl_listing_creation.specs.declared.creation.Creation.{Creation}

-- ---- the lists

-- the mode that is set on inherited entries; if none is inherited, the umask counts
abbrev pub mode_on : Creation → List Nfsace4 → Classes
mode_on creation [] = beyond_umask creation.mode creation.umask
mode_on creation (first ∷ more) = creation.mode

-- an NFSv4 list has at most 128 entries
abbrev pub as_nfs4 : List Nfsace4 → Result Lists BlockFault
as_nfs4 aces = if nat_lt MAX_ACES (length aces) then Err (Acl TooMany) else Ok (Nfs4 aces)

-- The lists of what is created in a folder with these: by the mode without the umask's bits; by the
-- default list, if there is one; or by what is inherited, with the mode set.
abbrev pub lists_in : Creation → Lists → Result Lists BlockFault
lists_in creation (Posix access None) =
    Ok (Posix (of_mode (beyond_umask creation.mode creation.umask)) None)
lists_in creation (Posix access (Some default)) =
    Ok (Posix (at_creation default creation.mode) (default_below creation.kind default))
lists_in creation (Nfs4 acl) =
    let inherited = inherited_list creation.kind acl in
    as_nfs4 (with_mode inherited (mode_on creation inherited))

-- ---- the file

-- `FOLDER/next`, with one slash
abbrev pub ends_with_slash : List ℕ → Bool
ends_with_slash path = bytes_eq (drop (length path - 1) path) (codes "/")

abbrev pub next_in : List ℕ → List ℕ
next_in path = path ++ (if ends_with_slash path then codes "next" else codes "/next")

-- the group of what is created: the folder's, if that passes it on
abbrev pub group_in : Creation → FileValue → ℕ
group_in creation folder =
    if folder.flags.set_group_id then folder.group else creation.group

-- and a new folder passes it on, too
abbrev pub flags_in : Kind → FileFlags → FileFlags
flags_in Dir flags = record no_flags { set_group_id = flags.set_group_id }
flags_in File flags = no_flags

-- what is created in a folder, with the name `next`
abbrev pub created_in : Creation → FileValue → Result FileValue BlockFault
created_in creation folder = do
  lists ← lists_in creation folder.lists
  Ok (record {
    path = next_in folder.path;
    owner = creation.owner;
    group = group_in creation folder;
    flags = flags_in creation.kind folder.flags;
    lists = lists;
  })

-- ---- its block, with ids in decimal

-- the line of the flags, of which only the group's may be set
abbrev pub flags_text : FileFlags → List ℕ
flags_text flags =
    if flags.set_group_id then line_text (codes "# flags: ") (codes "-s-") else []

abbrev pub created_text : FileValue → List ℕ
created_text file = header_text file.path file.owner file.group
    ++ (flags_text file.flags ++ (lists_text file.lists ++ newline ∷ []))

-- a block, and the two newlines at its end, no longer than one may be
abbrev pub if_short : List ℕ → Part
if_short text = if nat_le (length text) (MAX_BLOCK + 2) then Ok text else Err TooLong

-- the block of what is created in a folder
abbrev pub next_block : Creation → FileValue → Part
next_block creation folder = do
  file ← created_in creation folder
  if_short (created_text file)

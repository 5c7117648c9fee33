-- The file of a block, and the fault of a block without one.
use Rattle.std.specs.Prelude.{ℕ, nat_le, List, length, Option, Some, None, Result, Ok, Err}
use Rattle.std.specs.Prelude.{if◌then◌else◌}
use Rattle.std.specs.Option.{option_and_then}
use Rattle.acl_names.specs.Directory.{Known}
use Rattle.acl_names.specs.Names.{Names, names_of, resolved}
use Rattle.acl_names.specs.Steps.{◌>>=◌, or_fault}
use Rattle.acl_names.specs.declared.directory.resolve.NameFault.{NameFault}
use Rattle.acl_names.specs.declared.directory.resolve.NameFault.TheVariants.{Malformed, Unknown}
use Rattle.acl_listings.specs.BlockLists.{lists_by}
use Rattle.acl_listings.specs.FileFlags.{flags_by}
use Rattle.acl_listings.specs.Header.{Header, header_of, path_in}
use Rattle.acl_listings.specs.Lines.{first_line}
use Rattle.acl_listings.specs.declared.fault.BlockFault.{BlockFault}
use Rattle.acl_listings.specs.declared.fault.BlockFault.TheVariants.{TooLong, BadHeader}
use Rattle.acl_listings.specs.declared.fault.BlockFault.TheVariants.{UnknownOwner, UnknownGroup}
use Rattle.acl_listings.specs.declared.file_flags.FileFlags.{FileFlags}
use Rattle.acl_listings.specs.declared.limits.TheConstants.{MAX_BLOCK}
use Rattle.acl_listings.specs.declared.lists.Lists.{Lists}

pub record FileValue : Type 0 where
  pub path : List ℕ
  pub owner : ℕ
  pub group : ℕ
  pub flags : FileFlags
  pub lists : Lists

-- a text that is no longer than a block may be
abbrev pub within_limit : List ℕ → Option (List ℕ)
within_limit text = if nat_le (length text) MAX_BLOCK then Some text else None

-- The ids of an owner and a group: if one of them is neither an id nor a name, these aren't the
-- lines of a header; else one of the names is unknown, or they are these.
abbrev pub owners_of : Result ℕ NameFault → Result ℕ NameFault → Result (ℕ × ℕ) BlockFault
owners_of (Ok owner) (Ok group) = Ok (owner, group)
owners_of (Ok owner) (Err Malformed) = Err BadHeader
owners_of (Ok owner) (Err Unknown) = Err UnknownGroup
owners_of (Err Malformed) group = Err BadHeader
owners_of (Err Unknown) (Err Malformed) = Err BadHeader
owners_of (Err Unknown) group = Err UnknownOwner

abbrev pub owners_by : Names → Header → Result (ℕ × ℕ) BlockFault
owners_by names header = owners_of (resolved names.written names.uid header.owner)
    (resolved names.written names.gid header.group)

-- the file of a block, or the block's first fault
abbrev pub file_by : Names → List ℕ → Result FileValue BlockFault
file_by names text = do
  block ← or_fault TooLong (within_limit text)
  header ← or_fault BadHeader (header_of block)
  ids ← owners_by names header
  lists ← lists_by names header.list
  Ok (record {
    path = header.path;
    owner = ids.0;
    group = ids.1;
    flags = flags_by header.list;
    lists = lists;
  })

-- by the names of a directory
abbrev pub file_of : Known → List ℕ → Result FileValue BlockFault
file_of known = file_by (names_of known)

-- the path by which a fault of the block is reported: that of its first line
abbrev pub path_of : List ℕ → Option (List ℕ)
path_of text = option_and_then path_in (within_limit (first_line text))

-- The list that decides access to a file of a listing.
use Rattle.std.specs.Prelude.{List, map}
use Rattle.acl_access.specs.Evaluated.{evaluated_by}
use Rattle.acl_access.specs.declared.rules.Rules.{Rules}
use Rattle.acl_bridge.specs.Files.{File, file_with}
use Rattle.acl_bridge.specs.declared.any_acl.AnyAcl.{AnyAcl}
use Rattle.acl_bridge.specs.declared.any_acl.AnyAcl.TheVariants.{Posix, Nfs4}
use Rattle.acl_listings.specs.Block.{FileValue}
use Rattle.acl_listings.specs.declared.lists.Lists.{Lists}
use Rattle.acl_listings.specs.declared.lists.Lists.TheVariants as lists

-- the list that decides access to a file with these lists: of POSIX lists the access list as these
-- rules evaluate it
abbrev pub deciding_list : Rules → Lists → AnyAcl
deciding_list rules (lists.Posix access default) = Posix (evaluated_by rules access)
deciding_list rules (lists.Nfs4 acl) = Nfs4 acl

-- a listed file's owners, and the list that decides access to it
abbrev pub file_of : Rules → FileValue → File
file_of rules file = file_with (record { owner = file.owner; group = file.group })
    (deciding_list rules file.lists)

-- those of each of these
abbrev pub files_of : Rules → List FileValue → List File
files_of rules files = map (file_of rules) files

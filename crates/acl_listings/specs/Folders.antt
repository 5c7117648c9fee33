-- Which files of a listing are folders.
use Rattle.std.specs.Prelude.{Bool, ◌||◌, is_some}
use Rattle.acl_nfs4.specs.Inheritance.{has_inheritance}
use Rattle.acl_listings.specs.Block.{FileValue}
use Rattle.acl_listings.specs.declared.file_flags.FileFlags.{FileFlags}
use Rattle.acl_listings.specs.declared.lists.Lists.{Lists}
use Rattle.acl_listings.specs.declared.lists.Lists.TheVariants.{Posix, Nfs4}

abbrev pub has_flags : FileFlags → Bool
has_flags flags = flags.set_user_id || flags.set_group_id || flags.sticky

-- lists with something that a folder's content inherits: a default list, or entries with flags of
-- inheritance
abbrev pub hand_on : Lists → Bool
hand_on (Posix access default) = is_some default
hand_on (Nfs4 acl) = has_inheritance acl

-- a file that says by itself that it is a folder
abbrev pub says_folder : FileValue → Bool
says_folder file = has_flags file.flags || hand_on file.lists

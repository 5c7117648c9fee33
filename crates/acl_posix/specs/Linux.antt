-- The list by which Linux decides access. It ignores a list whose mask is empty, and uses the
-- file's mode, in which the mask has the group's bits (`acl_permission_check` of its fs/namei.c).
use Rattle.std.specs.Prelude.{Bool, false, ◌==◌, List, if◌then◌else◌}
use Rattle.std.specs.Option.{option_map_or}
use Rattle.acl_posix.specs.Entry.{EntryValue, perms_of}
use Rattle.acl_posix.specs.Mode.{mode_of, of_mode}
use Rattle.acl_posix.specs.declared.entry.Tag.TheVariants.{Mask}

-- whether there is a mask without permissions
abbrev pub has_empty_mask : List EntryValue → Bool
has_empty_mask acl = option_map_or (λ mask. mask == 0) (perms_of Mask acl) false

-- the list that Linux evaluates: the list itself, or, if its mask is empty, that of the mode
abbrev pub linux_list : List EntryValue → List EntryValue
linux_list acl = if has_empty_mask acl then of_mode (mode_of acl) else acl

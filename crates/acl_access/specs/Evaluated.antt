-- The list by which access to a file is decided.
use Rattle.std.specs.Prelude.{List}
use Rattle.acl_posix.specs.Entry.{EntryValue}
use Rattle.acl_posix.specs.Linux.{linux_list}
use Rattle.acl_access.specs.declared.rules.Rules.{Rules}
use Rattle.acl_access.specs.declared.rules.Rules.TheVariants.{Draft, Linux}

-- the list that these rules evaluate for a file with this one
abbrev pub evaluated_by : Rules → List EntryValue → List EntryValue
evaluated_by Draft acl = acl
evaluated_by Linux acl = linux_list acl

-- Sets of permissions. A set is seen as the number with its bits: 4 to read, 2 to write, 1 to
-- execute.
use Rattle.std.specs.Prelude.{ℕ, ◌<◌}
use Rattle.acl_posix.specs.declared.perms.Perms.{Perms}

-- the number of a set
abbrev pub bits_of : Perms → ℕ
bits_of perms = perms.0

-- a set of permissions to read, write and execute and nothing else
abbrev pub IsPermissions : ℕ → Type 0
IsPermissions set = set < 8

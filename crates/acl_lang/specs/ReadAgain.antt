-- What the lists of a service have, so that what is printed of them is read again.
use Rattle.std.specs.Prelude.{List}
use Rattle.acl_nfs4.specs.Ace.{Nfsace4}
use Rattle.acl_nfs4.specs.PrintedText as aces
use Rattle.acl_posix.specs.Entry.{EntryValue}
use Rattle.acl_posix.specs.PrintedText as entries

-- the numbers that the entries name are ids
abbrev pub NameIds : List EntryValue → Type 0
NameIds = entries.HaveIds

-- and those of ACEs
abbrev pub NameIdsOfAces : List Nfsace4 → Type 0
NameIdsOfAces = aces.HaveIds

-- A check of entries that aren't a list yet.
use Rattle.std.specs.Prelude.{Bool, List, Option, Some, None, Result, Ok, Err}
use Rattle.acl_posix.specs.Entry.{EntryValue}
use Rattle.acl_posix.specs.InOrder.{in_order}
use Rattle.acl_posix.specs.Validity.{fault_of}
use Rattle.acl_posix.specs.declared.acl.Invalid.{Invalid}

-- an answer, if nothing is wrong
abbrev pub unless : Option Invalid → Bool → Result Bool Invalid
unless None answer = Ok answer
unless (Some fault) answer = Err fault

-- the answer of a check on the list of these entries, or their first fault
abbrev pub checked : (List EntryValue → Bool) → List EntryValue → Result Bool Invalid
checked check entries = unless (fault_of entries) (check (in_order entries))

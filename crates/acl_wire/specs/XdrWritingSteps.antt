-- Private steps, which no public clause cites: entries of numbers put in XDR one after the other.
use Rattle.std.specs.Prelude.{ℕ, ◌==◌, List, ◌++◌, length, codes, decimal, if◌then◌else◌}
use Rattle.std.specs.Int.{w32, to_be_bytes}
use Rattle.std.specs.List.{flat_map}
use Rattle.acl_wire.specs.Written.{tidied_raw}
use Rattle.acl_wire.specs.XdrNames.{entry_bytes}
use Rattle.acl_wire.specs.declared.raw_ace.RawAce.{RawAce}

-- the string that says who, by the numbers of an entry that can be decided by
abbrev pub text_by : ℕ → ℕ → List ℕ
text_by special id =
    if special == 1 then codes "OWNER@"
    else if special == 2 then codes "GROUP@"
    else if special == 3 then codes "EVERYONE@"
    else decimal id

-- the bytes of such an entry
abbrev pub raw_bytes : RawAce → List ℕ
raw_bytes raw = entry_bytes (tidied_raw raw) (text_by raw.special raw.id)

-- the bytes of a list of such entries
abbrev pub list_bytes : List RawAce → List ℕ
list_bytes raws = to_be_bytes w32 (length raws) ++ flat_map raw_bytes raws

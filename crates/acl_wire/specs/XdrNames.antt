-- Entries of lists in XDR with their names, one at a time. An nfsace4 (RFC 8881, section 6.2.1) is
-- a type, a flag, a mask and a who; as RFC 4506 has it, three numbers of four bytes and a string:
-- its length in four bytes, its bytes, and others up to a whole group of four, which say nothing.
use Rattle.std.specs.Prelude.{◌≡◌, ◌<◌, ◌+◌, ◌-◌, ◌^◌, ◌==◌, ◌&&◌, not, ℕ, Bool, List, ◌++◌, length}
use Rattle.std.specs.Prelude.{drop, Option, Some, None, Result, Ok, Err, nat_lt}
use Rattle.std.specs.Prelude.{if◌then◌else◌}
use Rattle.std.specs.Char.{is_ascii_digit}
use Rattle.std.specs.Int.{w32, to_be_bytes}
use Rattle.std.specs.List.{list_all}
use Rattle.acl_names.specs.Steps.{◌>>=◌}
use Rattle.acl_nfs4.specs.Ace.{Nfsace4}
use Rattle.acl_wire.specs.Decision.{value_of}
use Rattle.acl_wire.specs.Written.{tidied_raw}
use Rattle.acl_wire.specs.WireLaws.{IsNumbers}
use Rattle.acl_wire.specs.Xdr.{number_at, padded, text_at, who_in}
use Rattle.acl_wire.specs.XdrWriting.{text_bytes, who_text}
use Rattle.acl_wire.specs.declared.fault.Nfs4Fault.{Nfs4Fault}
use Rattle.acl_wire.specs.declared.fault.Nfs4Fault.TheVariants as faults
use Rattle.acl_wire.specs.declared.raw_ace.RawAce.{RawAce}
use Rattle.acl_wire.specs.declared.xdr_names.XdrPlace.{XdrPlace}

-- the special number of an entry whose who is a name
abbrev pub by_name : ℕ
by_name = 4

-- what may be a name: none of its bytes is 0, not all are digits, as if there are none, and XDR can
-- count them
abbrev pub is_name : List ℕ → Bool
is_name text = nat_lt (length text) (2 ^ 32)
    && (list_all (λ byte. not (byte == 0)) text && not (list_all is_ascii_digit text))

-- whom a string says: one of the three, an id, or else a name
abbrev pub or_name : List ℕ → Result (ℕ × ℕ) Nfs4Fault → Result (ℕ × ℕ) Nfs4Fault
or_name text (Ok who) = Ok who
or_name text (Err fault) = if is_name text then Ok (by_name, 0) else Err fault

abbrev pub whom : List ℕ → Result (ℕ × ℕ) Nfs4Fault
whom text = or_name text (who_in text)

-- the entry that is decided by: where a who is a name, the other numbers are to be those of one
abbrev pub checked : RawAce → Result Nfsace4 Nfs4Fault
checked raw = value_of (if raw.special == by_name then record raw { special = 1 } else raw)

-- the numbers of an entry, less what plays no part: beside a name the id
abbrev pub tidied_named : RawAce → RawAce
tidied_named raw = if raw.special == by_name then record raw { id = 0 } else tidied_raw raw

-- the entry with this who, if it can be decided by
abbrev pub with_who : RawAce → List ℕ → Result (RawAce × List ℕ) Nfs4Fault
with_who raw text = checked raw >>= λ ace. Ok (tidied_named raw, text)

-- the entry that the bytes begin with, and its who as it stands there
unfoldable pub entry_at : List ℕ → Result (RawAce × List ℕ) Nfs4Fault
entry_at bytes = do
  kind ← number_at bytes
  flags ← number_at kind.1
  mask ← number_at flags.1
  text ← text_at mask.1
  who ← whom text.0
  with_who (record { kind = kind.0; flags = flags.0; mask = mask.0; special = who.0; id = who.1 })
      text.0

-- where entries are read, and how many are left: before the first is read, behind the count
abbrev pub begun : List ℕ → XdrPlace → Result (ℕ × ℕ) Nfs4Fault
begun bytes place = if place.at == 0 then (number_at bytes >>= λ count. Ok (4, count.0))
    else Ok (place.at, place.left)

-- the place behind an entry with this who
abbrev pub place_behind : ℕ → ℕ → List ℕ → XdrPlace
place_behind at left who = record {
  at = at + 16 + padded (length who);
  left = left - 1;
  who_at = at + 16;
  who_len = length who;
}

-- the place where no entry is left
abbrev pub last_place : ℕ → XdrPlace
last_place at = record { at = at; left = 0; who_at = at; who_len = 0 }

-- the entry there, and the place behind it; or none where none is left and the bytes end
abbrev pub next_at : List ℕ → ℕ → ℕ → Result (Option RawAce × XdrPlace) Nfs4Fault
next_at bytes at left =
    if left == 0
    then (if at == length bytes then Ok (None, last_place at) else Err faults.Size)
    else (entry_at (drop at bytes) >>= λ entry. Ok (Some entry.0, place_behind at left entry.1))

unfoldable pub next_of : List ℕ → XdrPlace → Result (Option RawAce × XdrPlace) Nfs4Fault
next_of bytes place = begun bytes place >>= λ from. next_at bytes from.0 from.1

-- the bytes of an entry: its numbers, and the string that says who
abbrev pub entry_bytes : RawAce → List ℕ → List ℕ
entry_bytes raw text = to_be_bytes w32 raw.kind ++ (to_be_bytes w32 raw.flags
    ++ (to_be_bytes w32 raw.mask ++ text_bytes text))

-- a name, if it is read as one
abbrev pub name_of : List ℕ → Result (List ℕ) Nfs4Fault
name_of name = whom name >>= λ who. if who.0 == by_name then Ok name else Err faults.UnknownName

-- the bytes of an entry with this name
abbrev pub named_bytes : RawAce → List ℕ → Result (List ℕ) Nfs4Fault
named_bytes raw name = name_of name >>= λ text. Ok (entry_bytes raw text)

-- the string that says who
abbrev pub text_of : RawAce → Nfsace4 → List ℕ → Result (List ℕ) Nfs4Fault
text_of raw ace name = if raw.special == by_name then name_of name else Ok (who_text ace.who)

-- an entry in XDR, in which this name stands if its who is one
unfoldable pub entry_of : RawAce → List ℕ → Result (List ℕ) Nfs4Fault
entry_of raw name = do
  ace ← checked raw
  text ← text_of raw ace name
  Ok (entry_bytes (tidied_named raw) text)

-- an entry that is written is read again at its place, less what plays no part, with the name that
-- it was written with, and then what stands behind it
abbrev pub NamesAreReadAgain : Type 0
NamesAreReadAgain = (raw : RawAce) (name bytes front behind : List ℕ) (place : XdrPlace)
    → IsNumbers raw → entry_of raw name ≡ Ok bytes
    → place.at ≡ length front → 0 < length front → 0 < place.left
    → (text : List ℕ) × (bytes ≡ entry_bytes (tidied_named raw) text)
    × (raw.special ≡ by_name → text ≡ name)
    × (next_of (front ++ (bytes ++ behind)) place
    ≡ Ok (Some (tidied_named raw), place_behind (length front) place.left text))
    × ((place_behind (length front) place.left text).at ≡ length (front ++ bytes))

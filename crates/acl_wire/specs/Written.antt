-- What is read was written so, but for what plays no part: the id of a POSIX entry that names
-- nobody, and of an NFSv4 entry about one of the three special identifiers the id and the flag that
-- says it is a group's.
use Rattle.std.specs.Prelude.{◌≡◌, ◌<◌, ◌/◌, ◌^◌, ◌==◌, ◌||◌, ℕ, zero, suc, Bool, List, [], ◌++◌}
use Rattle.std.specs.Prelude.{length, take, drop, map, Ok, if◌then◌else◌}
use Rattle.std.specs.Int.{w16, w32, from_le_bytes, to_le_bytes}
use Rattle.std.specs.List.{All}
use Rattle.acl_names.specs.Bits.{without}
use Rattle.acl_nfs4.specs.Ace.{Nfsace4}
use Rattle.acl_nfs4.specs.Flags.{identifier_group}
use Rattle.acl_posix.specs.Entry.{EntryValue}
use Rattle.acl_wire.specs.RawAces.{list_of, seen}
use Rattle.acl_wire.specs.RawAcesWriting.{raws_of}
use Rattle.acl_wire.specs.Xattr.{undefined_id, xattr_of}
use Rattle.acl_wire.specs.XattrReading.{entries_of}
use Rattle.acl_wire.specs.declared.raw_ace.Purpose.{Purpose}
use Rattle.acl_wire.specs.declared.raw_ace.RawAce.{RawAce}

abbrev pub AreBytes : List ℕ → Type 0
AreBytes = All (λ byte. byte < 256)

-- whether an entry with a tag of this number names somebody by id
abbrev pub names_by_id : ℕ → Bool
names_by_id number = (number == 0x02) || (number == 0x08)

-- the entry that the bytes begin with, in bytes: with the id that is written if it names nobody
abbrev pub tidied_entry : List ℕ → List ℕ
tidied_entry bytes = take 4 bytes ++ (if names_by_id (from_le_bytes w16 (take 2 bytes))
    then take 4 (drop 4 bytes) else to_le_bytes w32 undefined_id)

-- so many entries
abbrev pub tidied_entries : ℕ → List ℕ → List ℕ
tidied_entries zero bytes = []
tidied_entries (suc n) bytes = tidied_entry bytes ++ tidied_entries n (drop 8 bytes)

-- the bytes of a list with such ids
abbrev pub tidied : List ℕ → List ℕ
tidied bytes = take 4 bytes ++ tidied_entries (length (drop 4 bytes) / 8) (drop 4 bytes)

-- the entries that are read, written again, are these bytes
abbrev pub XattrsWereWritten : Type 0
XattrsWereWritten = (bytes : List ℕ) (entries : List EntryValue) → AreBytes bytes
    → entries_of bytes ≡ Ok entries → xattr_of entries ≡ tidied bytes

-- the numbers of an entry, less what plays no part
abbrev pub tidied_raw : RawAce → RawAce
tidied_raw raw = if raw.special == 0 then raw else record {
  kind = raw.kind;
  flags = without raw.flags (2 ^ identifier_group);
  mask = raw.mask;
  special = raw.special;
  id = 0;
}

-- and the list that is read, written again, is these numbers
abbrev pub RawsWereWritten : Type 0
RawsWereWritten = (purpose : Purpose) (raws : List RawAce) (aces : List Nfsace4)
    → list_of purpose raws ≡ Ok aces
    → raws_of aces ≡ map (λ raw. tidied_raw (seen purpose raw)) raws

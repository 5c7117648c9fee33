-- Which entries the bytes of an extended attribute have, or what is wrong with them. The id of an
-- entry that names nobody plays no part.
use Rattle.std.specs.Prelude.{◌≡◌, ℕ, zero, suc, ◌/◌, ◌%◌, ◌==◌, List, [], ◌∷◌, length, take, drop}
use Rattle.std.specs.Prelude.{Result, Ok, Err, nat_lt, nat_le, if◌then◌else◌}
use Rattle.std.specs.Int.{Width, w16, w32, byte_len, from_le_bytes}
use Rattle.acl_names.specs.Steps.{◌>>=◌}
use Rattle.acl_names.specs.declared.limits.TheConstants.{MAX_ID}
use Rattle.acl_posix.specs.Entry.{EntryValue}
use Rattle.acl_posix.specs.declared.entry.Tag.{Tag}
use Rattle.acl_posix.specs.declared.entry.Tag.TheVariants.{UserObj, User, GroupObj, Group, Mask}
use Rattle.acl_posix.specs.declared.entry.Tag.TheVariants.{Other}
use Rattle.acl_posix.specs.declared.limits.TheConstants.{MAX_ENTRIES}
use Rattle.acl_wire.specs.Xattr.{version}
use Rattle.acl_wire.specs.declared.fault.PosixFault.{PosixFault}
use Rattle.acl_wire.specs.declared.fault.PosixFault.TheVariants as faults
use Rattle.acl_wire.specs.declared.xattr_reading.Fields.{Fields}
use Rattle.acl_wire.specs.declared.fault.PosixError.{PosixError}
use Rattle.acl_wire.specs.declared.fault.PosixError.TheVariants as errors

-- what a call answers is what is read, unless memory ran out
abbrev pub Fails : {Y : Type 0} → PosixError → Result Y PosixFault → Type 0
Fails errors.Memory read = Unit {0}
Fails (errors.Fault fault) read = read ≡ Err fault

abbrev pub Gives : {X Y : Type 0} → (X → Y) → Result X PosixError → Result Y PosixFault → Type 0
Gives view (Ok x) read = read ≡ Ok (view x)
Gives view (Err error) read = Fails error read

-- a number, and the bytes behind it
abbrev pub number_at : Width → List ℕ → Result (ℕ × List ℕ) PosixFault
number_at width bytes = if nat_lt (length bytes) (byte_len width) then Err faults.Size
    else Ok (from_le_bytes width (take (byte_len width) bytes), drop (byte_len width) bytes)

-- the tag that names someone by this id
abbrev pub naming : (ℕ → Tag) → ℕ → Result Tag PosixFault
naming tag id = if nat_le id MAX_ID then Ok (tag id) else Err faults.Id

-- the tag of a number and an id
abbrev pub tag_of : ℕ → ℕ → Result Tag PosixFault
tag_of number id =
    if number == 0x01 then Ok UserObj
    else if number == 0x02 then naming User id
    else if number == 0x04 then Ok GroupObj
    else if number == 0x08 then naming Group id
    else if number == 0x10 then Ok Mask
    else if number == 0x20 then Ok Other
    else Err faults.Tag

-- the entry of these fields
unfoldable pub entry_of : Fields → Result EntryValue PosixFault
entry_of fields = do
  tag ← tag_of fields.tag fields.id
  if nat_lt fields.perms 8 then Ok (record { tag = tag; perms = fields.perms })
      else Err faults.Perms

-- the fields that the bytes begin with, and the bytes behind them
unfoldable pub fields_at : List ℕ → Result (Fields × List ℕ) PosixFault
fields_at bytes = if nat_lt (length bytes) 8 then Err faults.Size
    else Ok (
      record {
        tag = from_le_bytes w16 (take 2 bytes);
        perms = from_le_bytes w16 (take 2 (drop 2 bytes));
        id = from_le_bytes w32 (take 4 (drop 4 bytes));
      },
      drop 8 bytes,
    )

-- so many entries
unfoldable pub entries_at : ℕ → List ℕ → Result (List EntryValue) PosixFault
entries_at zero bytes = Ok []
entries_at (suc n) bytes = do
  fields ← fields_at bytes
  first ← entry_of fields.0
  others ← entries_at n fields.1
  Ok (first ∷ others)

-- what stands behind the version: a whole number of entries, and not too many
abbrev pub body_of : List ℕ → Result (List EntryValue) PosixFault
body_of bytes =
    if length bytes % 8 == 0
    then (if nat_le (length bytes / 8) MAX_ENTRIES then entries_at (length bytes / 8) bytes
    else Err faults.TooMany)
    else Err faults.Size

-- the entries of all the bytes
unfoldable pub entries_of : List ℕ → Result (List EntryValue) PosixFault
entries_of bytes = do
  number ← number_at w32 bytes
  if number.0 == version then body_of number.1 else Err faults.Version

-- NFSv4 lists in XDR (RFC 4506): a count, and for each entry its type, its flags, its mask and its
-- who, a string. Numbers have four bytes, the highest first.
use Rattle.std.specs.Prelude.{ℕ, zero, suc, ◌+◌, ◌*◌, ◌/◌, ◌≤◌, ◌==◌, List, [], ◌∷◌, length, take}
use Rattle.std.specs.Prelude.{drop, Result, Ok, Err, nat_lt, nat_le, codes, option_map, IfOk}
use Rattle.std.specs.Prelude.{if◌then◌else◌}
use Rattle.std.specs.Int.{w32, from_be_bytes}
use Rattle.std.specs.Str.{bytes_eq}
use Rattle.acl_names.specs.Ids.{decimal_value}
use Rattle.acl_names.specs.Steps.{◌>>=◌, or_fault}
use Rattle.acl_nfs4.specs.Ace.{Nfsace4}
use Rattle.acl_nfs4.specs.declared.limits.TheConstants.{INLINE_ACES, MAX_ACES}
use Rattle.acl_wire.specs.RawAces.{ace_of_raw, effective}
use Rattle.acl_wire.specs.declared.fault.Nfs4Fault.{Nfs4Fault}
use Rattle.acl_wire.specs.declared.fault.Nfs4Fault.TheVariants as faults
use Rattle.acl_wire.specs.declared.raw_ace.RawAce.{RawAce}

abbrev pub number_at : List ℕ → Result (ℕ × List ℕ) Nfs4Fault
number_at bytes = if nat_lt (length bytes) 4 then Err faults.Size
    else Ok (from_be_bytes w32 (take 4 bytes), drop 4 bytes)

-- a length in whole groups of four bytes
abbrev pub padded : ℕ → ℕ
padded n = (n + 3) / 4 * 4

-- a string: how many bytes, these bytes, and others up to a whole group of four, which say nothing
unfoldable pub text_at : List ℕ → Result (List ℕ × List ℕ) Nfs4Fault
text_at bytes = do
  n ← number_at bytes
  if nat_lt (length n.1) (padded n.0) then Err faults.Size
      else Ok (take n.0 n.1, drop (padded n.0) n.1)

-- the number of a special identifier, or an id
abbrev pub who_in : List ℕ → Result (ℕ × ℕ) Nfs4Fault
who_in text =
    if bytes_eq text (codes "OWNER@") then Ok (1, 0)
    else if bytes_eq text (codes "GROUP@") then Ok (2, 0)
    else if bytes_eq text (codes "EVERYONE@") then Ok (3, 0)
    else or_fault faults.UnknownName (option_map (λ id. (0, id)) (decimal_value text))

unfoldable pub raw_at : List ℕ → Result (RawAce × List ℕ) Nfs4Fault
raw_at bytes = do
  kind ← number_at bytes
  flags ← number_at kind.1
  mask ← number_at flags.1
  text ← text_at mask.1
  who ← who_in text.0
  Ok (record { kind = kind.0; flags = flags.0; mask = mask.0; special = who.0; id = who.1 }, text.1)

-- so many entries, and the bytes behind them
unfoldable pub aces_at : ℕ → List ℕ → Result (List Nfsace4 × List ℕ) Nfs4Fault
aces_at zero bytes = Ok ([], bytes)
aces_at (suc n) bytes = do
  raw ← raw_at bytes
  ace ← ace_of_raw raw.0
  first ← effective ace
  others ← aces_at n raw.1
  Ok (first ∷ others.0, others.1)

-- so many entries, and no bytes behind them
abbrev pub all_of : ℕ → List ℕ → Result (List Nfsace4) Nfs4Fault
all_of count bytes = aces_at count bytes >>= (λ all.
    if length all.1 == 0 then Ok all.0 else Err faults.Size)

unfoldable pub xdr_list_of : List ℕ → Result (List Nfsace4) Nfs4Fault
xdr_list_of bytes = do
  count ← number_at bytes
  if nat_le count.0 MAX_ACES then all_of count.0 count.1 else Err faults.TooMany

-- the count says no more entries than are stored inline
abbrev pub AnnouncesFew : List ℕ → Type 0
AnnouncesFew bytes = IfOk (number_at bytes) (λ count. count.0 ≤ INLINE_ACES)

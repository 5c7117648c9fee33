-- Private steps, which no public clause cites: numbers by which entries are sorted.
use Rattle.std.specs.Prelude.{◌≡◌, ℕ, ◌+◌, ◌*◌, ◌/◌, ◌%◌, ◌^◌, ◌<◌, List, length, get_or, map, take}
use Rattle.std.specs.List.{All}
use Rattle.acl_posix.specs.declared.limits.TheConstants.{MAX_ENTRIES}
use Rattle.acl_posix.specs.declared.entry.Tag.{Tag}
use Rattle.acl_posix.specs.declared.entry.Tag.TheVariants.{UserObj}
use Rattle.acl_posix.specs.Canonical.{rank_of, qualifier_of}
use Rattle.acl_posix.specs.Entry.{EntryValue}

-- the rank and the id in one number
abbrev pub order_of : Tag → ℕ
order_of tag = rank_of tag * 2 ^ 32 + qualifier_of tag

-- the id leaves the rank as it is
abbrev pub IsShort : Tag → Type 0
IsShort tag = qualifier_of tag < 2 ^ 32

-- the entry whose index a key has in its lowest bits: there are at most MAX_ENTRIES
abbrev pub entry_at : List EntryValue → ℕ → EntryValue
entry_at entries key = get_or entries (key % MAX_ENTRIES) (record { tag = UserObj; perms = 0 })

-- a key has the index of an entry, and above it what the order goes by
pub record IsKey (entries : List EntryValue) (key : ℕ) : Type 0 where
  pub inside : key % MAX_ENTRIES < length entries
  pub order : key / MAX_ENTRIES ≡ order_of (entry_at entries key).tag
  pub short : IsShort (entry_at entries key).tag

-- the keys of the first so many entries
pub record AreKeys (entries : List EntryValue) (n : ℕ) (keys : List ℕ) : Type 0 where
  pub count : length keys ≡ n
  pub name : map (entry_at entries) keys ≡ take n entries
  pub are : All (IsKey entries) keys

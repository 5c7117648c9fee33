-- The fault of a piece of a text that isn't an entry.
use Rattle.std.specs.Prelude.{◌≡◌, ℕ, List, None}
use Rattle.acl_names.specs.Directory.{Known, fault_of}
use Rattle.acl_posix.specs.Entry.{EntryValue}
use Rattle.acl_posix.specs.Shapes.{HasShape}

-- the piece is an entry with these users and groups
abbrev pub IsEntry : Known → List ℕ → Type 0
IsEntry known piece = (entry : EntryValue) × HasShape known piece entry

-- UnknownName: the piece isn't an entry here, but is one with the users and groups of some
-- faultless directory
abbrev pub HasUnknownName : Known → List ℕ → Type 0
HasUnknownName known piece = ¬ IsEntry known piece
    × ((other : Known) × (fault_of other ≡ None) × IsEntry other piece)

-- Syntax: the piece isn't an entry, whatever users and groups there are
abbrev pub HasNoShape : List ℕ → Type 0
HasNoShape piece = (known : Known) → ¬ IsEntry known piece

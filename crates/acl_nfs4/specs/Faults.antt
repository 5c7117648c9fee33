-- The fault of a piece of a text that isn't an entry.
use Rattle.std.specs.Prelude.{◌≡◌, ℕ, true, List, None}
use Rattle.acl_names.specs.Directory.{Known, fault_of}
use Rattle.acl_nfs4.specs.Ace.{Nfsace4, is_idle}
use Rattle.acl_nfs4.specs.AceShapes.{WritesAce}

-- the piece writes an entry with these users and groups, whether or not it has an effect
abbrev pub IsWritten : Known → List ℕ → Type 0
IsWritten known piece = (ace : Nfsace4) × WritesAce known piece ace

-- Syntax: the piece writes no entry, whatever users and groups there are
abbrev pub HasNoShape : List ℕ → Type 0
HasNoShape piece = (known : Known) → ¬ IsWritten known piece

-- UnknownName: the piece writes no entry here, but writes one with the users and groups of some
-- faultless directory
abbrev pub HasUnknownName : Known → List ℕ → Type 0
HasUnknownName known piece = ¬ IsWritten known piece
    × ((other : Known) × (fault_of other ≡ None) × IsWritten other piece)

-- InheritOnly: the piece writes an entry without any effect
abbrev pub HasNoEffect : Known → List ℕ → Type 0
HasNoEffect known piece = (ace : Nfsace4) × WritesAce known piece ace × (is_idle ace ≡ true)

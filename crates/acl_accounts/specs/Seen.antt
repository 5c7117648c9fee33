-- A set beside a list, which answers for it.
use Rattle.std.specs.Prelude.{◌≡◌, ℕ, ◌==◌, List, nat_eq}
use Rattle.std.specs.List.{list_any}
use Rattle.std.specs.HashSet.{HashSet, contains}
use Rattle.std.specs.declared.hash.FoldHasher.{FoldHasher}
use Rattle.std.specs.declared.hash.BuildHasherDefault.{BuildHasherDefault}

-- the set has exactly the ids of the list
abbrev pub HaveBeenSeen : List ℕ → HashSet ℕ (BuildHasherDefault FoldHasher) → Type 0
HaveBeenSeen ids seen = (id : ℕ) → contains nat_eq seen id ≡ list_any (λ other. other == id) ids

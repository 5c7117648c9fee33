-- What is read from a reader.
use Rattle.std.specs.Prelude.{◌≤◌, ℕ, List, length, Option}
use Rattle.std.specs.Io.KnownBytes.{Consumes}

-- a reader that reports its bytes gave up at most n of them, from the front
abbrev pub ConsumesAtMost : Option (List ℕ) → Option (List ℕ) → ℕ → Type 0
ConsumesAtMost old new n = (taken : List ℕ) × Consumes old new taken × (length taken ≤ n)

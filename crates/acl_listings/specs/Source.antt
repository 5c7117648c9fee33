-- The bytes of a reader that are still to come. Private steps, which no public clause cites.
use Rattle.std.specs.Prelude.{ℕ, Bool, List, Option, drop}
use Rattle.std.specs.Io.KnownBytes.{prepend_known}

-- those in the buffer, those that the reader has left if it reports them, and whether it has ended
pub record SourceValue : Type 0 where
  pub shown : List ℕ
  pub left : Option (List ℕ)
  pub has_ended : Bool

-- all that are still to come
abbrev pub bytes_to_come : SourceValue → Option (List ℕ)
bytes_to_come source = prepend_known source.shown source.left

-- all but the first ones, which are in the buffer
abbrev pub bytes_after : ℕ → SourceValue → Option (List ℕ)
bytes_after count source = prepend_known (drop count source.shown) source.left

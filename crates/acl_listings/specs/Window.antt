-- The bytes of a reader that were read and not taken. Private steps, which no public clause cites.
use Rattle.std.specs.Prelude.{◌≡◌, ℕ, ◌≤◌, List, ◌++◌, length}
use Rattle.acl_listings.specs.declared.window.TheConstants.{CAPACITY}

-- the bytes are between these bounds
pub record AreBounds (buffer : List ℕ) (start end : ℕ) : Type 0 where
  pub ordered : start ≤ end
  pub within : end ≤ length buffer
  pub constant : length buffer ≡ CAPACITY

-- the bytes of old, and perhaps more
abbrev pub Extends : List ℕ → List ℕ → Type 0
Extends old new = (more : List ℕ) × (new ≡ old ++ more)

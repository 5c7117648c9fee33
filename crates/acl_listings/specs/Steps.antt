-- The steps of a cursor. Private, which no public clause cites.
use Rattle.std.specs.Prelude.{◌≡◌, ℕ, ◌+◌, true, List, Option, IfSome, nat_lt, take}
use Rattle.std.specs.Prelude.{if◌then◌else◌}
use Rattle.std.specs.Io.KnownBytes.{Consumes}
use Rattle.acl_listings.specs.Extent.{EndsBlock, has_full_lines, newlines_in}

-- what was taken goes on a block, by the lines from one number to another, and ends it
pub record GoesOn (before after : Option (List ℕ)) (line last : ℕ) : Type 0 where
  pub more : List ℕ
  pub taken : Consumes before after more
  pub full : has_full_lines true more ≡ true
  pub counted : line + newlines_in more ≡ last
  pub ends : IfSome after EndsBlock

-- the current block: so many of the buffered bytes, or, if it is too long, those kept of it
abbrev pub text_at_hand : ℕ → List ℕ → List ℕ → List ℕ
text_at_hand len shown head = if nat_lt 0 len then take len shown else head

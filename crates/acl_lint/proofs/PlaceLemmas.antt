-- The first piece that doesn't read, of those that are left.
use Rattle.std.proofs.Common.{◌≡◌, ◌+◌, ℕ, suc, false, List, ◌∷◌, Option, Result, Ok, Err, refl, take}
use Rattle.std.specs.Prelude.{is_err}
use Rattle.acl_lint.specs.Places.{Piece, first_unread, piece_or}

-- a piece that reads is passed over
pub unread-passed : {A F : Type 0} (result : Result A F) (piece : Piece) (other : Option Piece) → is_err result ≡ false → piece_or result piece other ≡ other
unread-passed (Ok value) piece other reads = refl
unread-passed (Err fault) piece other reads = cc

module _ {A F : Type 0} (read : List ℕ → Result A F) where
  -- of one piece more
  pub unread-next : (before left most : ℕ) (pieces : List (List ℕ)) (piece : List ℕ) (more : List (List ℕ)) → pieces ≡ piece ∷ more → most ≡ suc left
      → first_unread read before (take most pieces) ≡ piece_or (read piece) (record { number = before + 1; text = piece }) (first_unread read (before + 1) (take left more))
  unread-next before left most pieces piece more is one_more = rw (is, one_more) refl

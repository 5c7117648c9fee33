-- Private steps, which no public clause cites: what the taker's thread keeps.
use Rattle.std.specs.Prelude.{◌≡◌, ℕ, ◌+◌, ◌-◌, ◌<◌, Bool, true, false, List, [], ◌∷◌, ◌++◌, length}
use Rattle.std.specs.Prelude.{slice_index_or, slice_set, replicate, nat_eq, Option, Some, None}
use Rattle.acl_broker.specs.TakerSides.{given, outbox}
use Rattle.acl_broker.specs.Ends.{KeepEnds}
use Rattle.acl_broker.specs.Takers.{TakerState, Keeps, StillKeeps}
use Rattle.acl_broker.specs.declared.taker_side.TakerSide.{TakerSide}
use Rattle.acl_runs.specs.ErrorLimit.{errors_in, EndsAtError}
use Rattle.acl_runs.specs.declared.error_limits.ErrorLimits.{ErrorLimits}

module _ {I R : Type 0} where
  -- all answers to a session so far
  abbrev pub made : TakerSide I R → List R
  made side = given side ++ outbox side

-- whether the last of these replies is an error, if there is one
abbrev pub LastFails : {R : Type 0} → (R → Bool) → Bool → List R → Type 0
LastFails {R} is_error fails replies = (before : List R) (last : R) → replies ≡ before ++ last ∷ []
    → fails ≡ is_error last

module _ {I R : Type 0} (is_error : R → Bool) where
  -- a session that isn't cancelled may have so many more errors, and one that is had its last
  pub record IsLimited (allowed left : ℕ) (side : TakerSide I R) : Type 0 where
    pub live : side.cancelled ≡ false → (0 < left)
        × (left + errors_in is_error (made side) ≡ allowed)
    pub over : side.cancelled ≡ true → EndsAtError is_error allowed (made side)

  -- so it is with each session, if errors are limited
  abbrev pub AreLimited : Option ℕ → ErrorLimits → List (TakerSide I R) → Type 0
  AreLimited None limits sides = Unit {0}
  AreLimited (Some allowed) limits sides =
      (length limits.left.items ≡ length sides)
      × ((session left : ℕ) (side : TakerSide I R) → session < length sides
      → IsLimited allowed (slice_index_or limits.left.items session left)
      (slice_index_or sides session side))

-- so many errors are left to each of so many sessions, if they are limited
abbrev pub StartsWith : Option ℕ → ℕ → ErrorLimits → Type 0
StartsWith None sessions limits = Unit {0}
StartsWith (Some allowed) sessions limits = limits.left.items ≡ replicate sessions allowed

-- a session that has a limit has one error fewer left, and whether none is
abbrev pub CountsDown : ℕ → ErrorLimits → Bool → ErrorLimits → Type 0
CountsDown session old last new =
    let left = slice_index_or old.left.items session 0 - 1 in
    session < length old.left.items → (new.left.items ≡ slice_set old.left.items session left)
    × (last ≡ nat_eq left 0)

module _ {State I R : Type 0} (next : State → I → State) (reply : State → I → R)
    (is_error : R → Bool) where
  -- the taker at two moments: it keeps its ends, whatever opening state it kept, and the limits
  pub record TakesOn (old : TakerState State I R) (was : ErrorLimits) (new : TakerState State I R)
      (is : ErrorLimits) : Type 0 where
    pub pairs : KeepEnds old.sides new.sides
    pub keeps : StillKeeps next reply old new
    pub limits : (opening : State) (limit : Option ℕ) → Keeps next reply opening old
        → AreLimited is_error limit was old.sides → AreLimited is_error limit is new.sides

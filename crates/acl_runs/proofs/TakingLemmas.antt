-- The taker from step to step.
use Rattle.std.proofs.Common.{ap, sym, ◌∙◌, subst, arith, get_or, inl, inr, ◌≡◌, ◌≢◌, ℕ, ◌-◌, ◌<◌, ◌≤◌, Bool, true, false, length, refl, Ok, Err, nat_eq, length-set, List, Option}
use Rattle.std.proofs.lemmas.List.{get_or-set_same, get_or-set_other, get_or_default}
use Rattle.std.proofs.lemmas.Bool.Decides.{leb_tells}
use Rattle.acl_broker.specs.Ends.{KeepEnds}
use Rattle.acl_broker.specs.TakerSides.{outbox, CancelsAlone}
use Rattle.acl_broker.specs.Takers.{TakerState, Keeps, StillKeeps, AppendsOne, SideMoves, SideSatisfies, SameExceptAt, TakeMoves, DeliverMoves}
use Rattle.acl_broker.specs.declared.taker_side.TakerSide.{TakerSide}
use Rattle.acl_broker.specs.declared.steps.TakeRefused.{TakeRefused}
use Rattle.acl_broker.specs.declared.steps.TakeRefused.TheVariants.{UnknownSession}
use Rattle.acl_runs.specs.Taking.{IsLimited, AreLimited, TakesOn, CountsDown, LastFails}
use Rattle.acl_runs.specs.declared.error_limits.ErrorLimits.{ErrorLimits}
use Rattle.acl_runs.proofs.LimitLemmas.{ok_isnt_err, OwesMore, owes_more, refused_made, delivered_made, limited_same, limited_more, limited_fewer, limited_over, limits_by}

-- the limits after an error was counted
counted : (limits limits' : ErrorLimits) (session left : ℕ) (last : Bool) → CountsDown session limits last limits' → session < length limits.left.items
    → (length limits'.left.items ≡ length limits.left.items)
    × ((other d : ℕ) → other ≢ session → get_or limits'.left.items other d ≡ get_or limits.left.items other d)
    × (get_or limits'.left.items session left ≡ get_or limits.left.items session left - 1)
    × (last ≡ nat_eq (get_or limits.left.items session left - 1) 0)
counted limits limits' session left last counts below =
    let items = limits.left.items in
    let all = counts below in
    let one : get_or items session 0 ≡ get_or items session left = get_or_default items session 0 left below in (
      ap length all.0 ∙ length-set items session (get_or items session 0 - 1),
      λ other d differs. ap (λ items. get_or items other d) all.0 ∙ get_or-set_other items session other (get_or items session 0 - 1) d differs,
      ap (λ items. get_or items session left) all.0 ∙ get_or-set_same items session (get_or items session 0 - 1) left below ∙ ap (λ n. n - 1) one,
      all.1 ∙ ap (λ n. nat_eq (n - 1) 0) one,
    )

-- a session of which a take was accepted is known
pub inside_of : (sessions session place : ℕ) {Same : Type 0} → (sessions ≤ session → (Ok place ≡ Err UnknownSession) × Same) → session < sessions
inside_of sessions session place unknown = elim (leb_tells sessions session) [
  | inl past ↦ absurd (ok_isnt_err (unknown past.1).0)
  | inr inside ↦ inside.1
]

module _ {I R : Type 0} (is_error : R → Bool) where
  -- nothing is counted, and the session's limit holds on
  counts_stay : (limits : ErrorLimits) (session : ℕ) (old new : List (TakerSide I R)) → SameExceptAt session old new
      → ((allowed left : ℕ) (side : TakerSide I R) → session < length old → IsLimited is_error allowed left (get_or old session side) → IsLimited is_error allowed left (get_or new session side))
      → (limit : Option ℕ) → AreLimited is_error limit limits old → AreLimited is_error limit limits new
  counts_stay limits session old new others here limit = limits_by is_error limit limits limits session old new others
      (λ allowed left side below count. (refl, λ other d differs. refl, here allowed (get_or limits.left.items session left) side below)) (λ past. refl)

  -- an error of the session is counted, and its limit holds on with what is left
  counts_down : (limits limits' : ErrorLimits) (session : ℕ) (last : Bool) (old new : List (TakerSide I R))
      → CountsDown session limits last limits' → session < length old → SameExceptAt session old new
      → ((allowed left : ℕ) (side : TakerSide I R) → nat_eq (left - 1) 0 ≡ last
      → IsLimited is_error allowed left (get_or old session side)
      → IsLimited is_error allowed (left - 1) (get_or new session side))
      → (limit : Option ℕ) → AreLimited is_error limit limits old → AreLimited is_error limit limits' new
  counts_down limits limits' session last old new counts inside others here limit = limits_by is_error limit limits limits' session old new others
      (λ allowed left side below count.
      let one = counted limits limits' session left last counts (omega (arith, below, count)) in (
        one.0,
        one.1,
        λ limited. subst (λ n. IsLimited is_error allowed n (get_or new session side)) (sym one.2) (here allowed (get_or limits.left.items session left) side (sym one.3) limited),
      ))
      (λ past. absurd (omega (arith, past, inside)))

module _ {State I R : Type 0} (next : State → I → State) (reply : State → I → R) (is_error : R → Bool) where
  pub takes_on_then : (a b c : TakerState State I R) (p q r : ErrorLimits) → TakesOn next reply is_error a p b q → TakesOn next reply is_error b q c r → TakesOn next reply is_error a p c r
  takes_on_then a b c p q r first second = record {
    pairs = λ ends are. second.pairs ends (first.pairs ends are);
    keeps = λ opening keeps. second.keeps opening (first.keeps opening keeps);
    limits = λ opening limit keeps limited. second.limits opening limit (first.keeps opening keeps) (first.limits opening limit keeps limited);
  }

  -- a take that is refused
  pub takes_on_refused : (old new : TakerState State I R) (limits : ErrorLimits) (session : ℕ)
      (why : TakeRefused) → KeepEnds old.sides new.sides → StillKeeps next reply old new
      → SideMoves session old.sides new.sides (TakeMoves (Err why)) → SameExceptAt session old.sides new.sides
      → TakesOn next reply is_error old limits new limits
  takes_on_refused old new limits session why pairs keeps moves others = record {
    pairs = pairs;
    keeps = keeps;
    limits = λ opening limit kept. counts_stay is_error limits session old.sides new.sides others
        (λ allowed left side below. limited_same is_error allowed left (get_or old.sides session side) (get_or new.sides session side)
        (refused_made (Err why) why (get_or old.sides session side) (get_or new.sides session side) refl (moves side below)))
        limit;
  }

  -- a delivery
  pub takes_on_delivered : (old new : TakerState State I R) (limits : ErrorLimits) (session : ℕ)
      (delivered : Bool) → KeepEnds old.sides new.sides → StillKeeps next reply old new
      → SideMoves session old.sides new.sides (DeliverMoves delivered)
      → SameExceptAt session old.sides new.sides → TakesOn next reply is_error old limits new limits
  takes_on_delivered old new limits session delivered pairs keeps moves others = record {
    pairs = pairs;
    keeps = keeps;
    limits = λ opening limit kept. counts_stay is_error limits session old.sides new.sides others
        (λ allowed left side below. limited_same is_error allowed left (get_or old.sides session side) (get_or new.sides session side)
        (delivered_made delivered (get_or old.sides session side) (get_or new.sides session side) (moves side below)))
        limit;
  }

  module _ (old new : TakerState State I R) (limits : ErrorLimits) (session place : ℕ)
      (inside : session < length old.sides) (pairs : KeepEnds old.sides new.sides)
      (keeps : StillKeeps next reply old new) (appends : AppendsOne session old.journal new.journal)
      (moves : SideMoves session old.sides new.sides (TakeMoves (Ok place)))
      (others : SameExceptAt session old.sides new.sides) (failed : Bool)
      (last_fails : SideSatisfies session new.sides (λ side. LastFails is_error failed (outbox side))) where
    -- what is owed after an accepted take, and whether it is an error
    more_of : (opening : State) (default : TakerSide I R) → Keeps next reply opening old → OwesMore (get_or old.sides session default) (get_or new.sides session default)
    more_of opening default kept = owes_more next reply opening old new session default inside kept (keeps opening kept) appends others.0 (moves default inside).answers

    fails_so : (opening : State) (default : TakerSide I R) (kept : Keeps next reply opening old) → is_error (more_of opening default kept).reply ≡ failed
    fails_so opening default kept =
        let more = more_of opening default kept in
        sym (last_fails default (omega (arith, inside, others.0)) (outbox (get_or old.sides session default)) more.reply more.box)

    live_then : (default : TakerSide I R) → (get_or new.sides session default).cancelled ≡ false
    live_then default = (moves default inside).flags.1 ∙ (moves default inside).live

    -- an accepted take whose answer is no error
    pub takes_on_fine : failed ≡ false → TakesOn next reply is_error old limits new limits
    takes_on_fine fine = record {
      pairs = pairs;
      keeps = keeps;
      limits = λ opening limit kept. counts_stay is_error limits session old.sides new.sides others
          (λ allowed left side below. limited_more is_error allowed left (get_or old.sides session side) (get_or new.sides session side)
          (more_of opening side kept) (moves side inside).live (live_then side) (fails_so opening side kept ∙ fine))
          limit;
    }

    -- one whose answer is an error, but not the last one allowed
    pub takes_on_fewer : (limits' : ErrorLimits) (last : Bool) → failed ≡ true → CountsDown session limits last limits' → last ≡ false → TakesOn next reply is_error old limits new limits'
    takes_on_fewer limits' last fails counts not_last = record {
      pairs = pairs;
      keeps = keeps;
      limits = λ opening limit kept. counts_down is_error limits limits' session last old.sides new.sides counts inside others
          (λ allowed left side is. limited_fewer is_error allowed left (get_or old.sides session side) (get_or new.sides session side)
          (more_of opening side kept) (moves side inside).live (live_then side) (fails_so opening side kept ∙ fails) (is ∙ not_last))
          limit;
    }

    -- one whose answer is the last error allowed, after which the session is cancelled
    pub takes_on_over : (limits' : ErrorLimits) (last : Bool) (after : TakerState State I R) → failed ≡ true → CountsDown session limits last limits' → last ≡ true
        → KeepEnds new.sides after.sides → StillKeeps next reply new after
        → SideMoves session new.sides after.sides CancelsAlone
        → SameExceptAt session new.sides after.sides → TakesOn next reply is_error old limits after limits'
    takes_on_over limits' last after fails counts is_last pairs' keeps' cancels others' = record {
      pairs = λ ends are. pairs' ends (pairs ends are);
      keeps = λ opening kept. keeps' opening (keeps opening kept);
      limits = λ opening limit kept. counts_down is_error limits limits' session last old.sides after.sides counts inside
          (others'.0 ∙ others.0, λ other d differs. others'.1 other d differs ∙ others.1 other d differs)
          (λ allowed left side is. limited_over is_error allowed left (get_or old.sides session side) (get_or new.sides session side) (get_or after.sides session side)
          (more_of opening side kept) (moves side inside).live (fails_so opening side kept ∙ fails) (is ∙ is_last) (cancels side (omega (arith, inside, others.0))))
          limit;
    }

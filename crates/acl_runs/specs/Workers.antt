-- What the worker of a session does.
use Rattle.std.specs.Prelude.{◌≡◌, ◌⊎◌, ℕ, true, List, [], ◌∷◌, ◌++◌, length, map, Option}
use Rattle.std.specs.Prelude.{Some, None, if◌then◌else◌, ◌-◌, flat_map}
use mathlib.Core.List.{IsPrefix}
use Rattle.acl_broker.specs.Ends.{sent_by, polled_by, is_closed, StaysEndOf}
use Rattle.acl_broker.specs.declared.end.End.{End}
use Rattle.acl_broker.specs.declared.end.End.TheVariants.{Open, Closed}
use Rattle.acl_broker.specs.declared.session_end.SessionEnd.{SessionEnd}
use Rattle.acl_runs.specs.ErrorLimit.{left_after, UsesUp}
use Rattle.acl_runs.specs.Handling.{Handling}
use Rattle.acl_runs.specs.declared.printed.Printed.{Printed}
use Rattle.acl_runs.specs.declared.worker.Finished.{Finished}

-- one error fewer is left, if they are limited
abbrev pub one_less : Option ℕ → Option ℕ
one_less None = None
one_less (Some left) = Some (left - 1)

-- an end of which nothing was submitted or polled yet
abbrev pub IsNew : {I R : Type 0} → SessionEnd I R → Type 0
IsNew end = (sent_by (Open end) ≡ []) × (polled_by (Open end) ≡ [])

module _ {K : Type 0} where
  -- no more errors are allowed
  abbrev pub IsOver : Printed K → Type 0
  IsOver printed = printed.left ≡ Some 0

module _ {R K : Type 0} (handling : Handling R K) where
  -- one more answer, of which so much is kept, with its text
  pub record Prints (old : Printed K) (answer : R) (new : Printed K) : Type 0 where
    pub answers : new.answers.items ≡ old.answers.items ++ handling.keep answer ∷ []
    pub output : new.output.items ≡ old.output.items ++ handling.text answer
    pub left : new.left ≡ (if handling.is_error answer then one_less old.left else old.left)

  -- these answers are printed, and the errors among them counted
  pub record HasPrinted (limit : Option ℕ) (polled : List R) (printed : Printed K) : Type 0 where
    pub answers : printed.answers.items ≡ map handling.keep polled
    pub output : printed.output.items ≡ flat_map handling.text polled
    pub left : printed.left ≡ left_after handling.is_error limit polled

  module _ {I : Type 0} where
    -- one session at two moments: these items were submitted since, and what was polled was printed
    pub record GoesOn (old : End I R) (was : Printed K) (items : List I) (new : End I R)
        (is : Printed K) : Type 0 where
      pub stays : StaysEndOf old new
      pub sent : sent_by new ≡ sent_by old ++ items
      pub prints : (limit : Option ℕ) → HasPrinted limit (polled_by old) was
          → HasPrinted limit (polled_by new) is
      pub over : IsOver was → IsOver is

    -- the same, and what was submitted was the first of what was still wanted
    pub record Advances (old : End I R) (was : Printed K) (wanted : List I) (new : End I R)
        (is : Printed K) (rest : List I) : Type 0 where
      pub stays : StaysEndOf old new
      pub sent : sent_by new ++ rest ≡ sent_by old ++ wanted
      pub prints : (limit : Option ℕ) → HasPrinted limit (polled_by old) was
          → HasPrinted limit (polled_by new) is

    -- the session has submitted all that it wanted, which is so many; or some of it, if no more
    -- errors are allowed
    pub record Submits (old : End I R) (was : Printed K) (wanted : List I) (count : ℕ)
        (new : End I R) (is : Printed K) : Type 0 where
      pub stays : StaysEndOf old new
      pub sent : ((sent_by new ≡ sent_by old ++ wanted) × (count ≡ length wanted))
          ⊎ (IsPrefix (sent_by new) (sent_by old ++ wanted) × IsOver is)
      pub prints : (limit : Option ℕ) → HasPrinted limit (polled_by old) was
          → HasPrinted limit (polled_by new) is

    -- a session that is served: its end, closed, has submitted all that was wanted and polled as
    -- many answers, or some of it if these answers use up the errors allowed; this is what is kept
    -- of the answers that it polled, and this is their text
    pub record IsServed (limit : Option ℕ) (wanted : List I) (end : End I R) (kept : List K)
        (output : List ℕ) : Type 0 where
      pub closed : is_closed end ≡ true
      pub sent : ((sent_by end ≡ wanted) × (length (polled_by end) ≡ length wanted))
          ⊎ (IsPrefix (sent_by end) wanted × UsesUp handling.is_error limit (polled_by end))
      pub kept_is : kept ≡ map handling.keep (polled_by end)
      pub output_is : output ≡ flat_map handling.text (polled_by end)

    -- what a worker hands on that wasn't stopped: its own end, of a session that is served
    pub record IsFinished (start : SessionEnd I R) (limit : Option ℕ) (wanted : List I)
        (end : End I R) (kept : List K) (output : List ℕ) : Type 0 where
      pub stays : StaysEndOf (Open start) end
      pub served : IsServed limit wanted end kept output

    -- the same of all that it hands on
    abbrev pub Finishes : SessionEnd I R → Option ℕ → List I → Finished I R K → Type 0
    Finishes start limit wanted finished =
        IsFinished start limit wanted (Closed finished.end) finished.printed.answers.items
        finished.printed.output.items

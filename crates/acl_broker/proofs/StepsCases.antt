-- A step has a result of its own kind.
use Rattle.std.specs.Prelude.{ℕ, Option, Result}
use Rattle.acl_broker.specs.Points.{Point}
use Rattle.acl_broker.specs.Steps.{Meets}
use Rattle.acl_broker.specs.declared.steps.Refused.{Refused}
use Rattle.acl_broker.specs.declared.steps.TakeRefused.{TakeRefused}
use Rattle.acl_broker.specs.declared.steps.CloseRefused.{CloseRefused}
use Rattle.acl_broker.specs.declared.steps.CancelRefused.{CancelRefused}
use Rattle.acl_broker.specs.declared.steps.Step.{Step}
use Rattle.acl_broker.specs.declared.steps.Step.TheVariants.{Submit, Take, Answer, Close, Cancel}
use Rattle.acl_broker.specs.declared.steps.StepResult.{StepResult}
use Rattle.acl_broker.specs.declared.steps.StepResult.TheVariants.{Submitted, Taken, Answered, ClosedNow, CancelledNow}

module _ {State I R : Type 0} (next : State → I → State) (reply : State → I → R) (point : Point State I R) (Holds : Step I → StepResult I R → Type 0) where
  abbrev Case : Step I → StepResult I R → Type 0
  Case step result = Meets next reply point step result → Holds step result

  -- what holds of each kind of step that has its result holds of every step that has its result
  pub record Cases : Type 0 where
    pub submit : (session : ℕ) (item : I) (result : Result Unit (Refused I)) → Case (Submit session item) (Submitted result)
    pub take : (session : ℕ) (result : Result ℕ TakeRefused) → Case (Take session) (Taken result)
    pub answer : (session : ℕ) (result : Option R) → Case (Answer session) (Answered result)
    pub close : (session : ℕ) (result : Result Unit CloseRefused) → Case (Close session) (ClosedNow result)
    pub cancel : (session : ℕ) (result : Result Unit CancelRefused) → Case (Cancel session) (CancelledNow result)

  pub by_cases : Cases → (step : Step I) (result : StepResult I R) → Case step result
  by_cases cases (Submit session item) (Submitted result) met = cases.submit session item result met
  by_cases cases (Take session) (Taken result) met = cases.take session result met
  by_cases cases (Answer session) (Answered result) met = cases.answer session result met
  by_cases cases (Close session) (ClosedNow result) met = cases.close session result met
  by_cases cases (Cancel session) (CancelledNow result) met = cases.cancel session result met
  by_cases cases (Submit session item) (Taken result) met = absurd met
  by_cases cases (Submit session item) (Answered result) met = absurd met
  by_cases cases (Submit session item) (ClosedNow result) met = absurd met
  by_cases cases (Submit session item) (CancelledNow result) met = absurd met
  by_cases cases (Take session) (Submitted result) met = absurd met
  by_cases cases (Take session) (Answered result) met = absurd met
  by_cases cases (Take session) (ClosedNow result) met = absurd met
  by_cases cases (Take session) (CancelledNow result) met = absurd met
  by_cases cases (Answer session) (Submitted result) met = absurd met
  by_cases cases (Answer session) (Taken result) met = absurd met
  by_cases cases (Answer session) (ClosedNow result) met = absurd met
  by_cases cases (Answer session) (CancelledNow result) met = absurd met
  by_cases cases (Close session) (Submitted result) met = absurd met
  by_cases cases (Close session) (Taken result) met = absurd met
  by_cases cases (Close session) (Answered result) met = absurd met
  by_cases cases (Close session) (CancelledNow result) met = absurd met
  by_cases cases (Cancel session) (Submitted result) met = absurd met
  by_cases cases (Cancel session) (Taken result) met = absurd met
  by_cases cases (Cancel session) (Answered result) met = absurd met
  by_cases cases (Cancel session) (ClosedNow result) met = absurd met

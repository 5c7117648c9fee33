-- A run of steps merges what its sessions submitted.
use Rattle.std.proofs.Common.{ap, sym, ◌∙◌, subst, eqb, get_or, inl, inr, ◌≡◌, ℕ, ◌<◌, Bool, true, false}
use Rattle.std.proofs.Common.{List, [], ◌∷◌, ◌++◌, ◌||◌, length, drop, Option, Some, None, Result, Ok, Err}
use Rattle.std.proofs.Common.{nat_lt, ◌==◌, if◌then◌else◌, refl}
use Rattle.std.proofs.lemmas.Bool.Decides.{eqb_tells}
use Rattle.std.specs.List.{AllByRecursion}
use Rattle.std.proofs.lemmas.Bool.{cond-false}
use mathlib.Core.List.{IsPrefix}
use Rattle.acl_broker.specs.Lanes.{submit_answer, fresh_lane}
use Rattle.acl_broker.specs.Journal.{items_from, state_after, answers_to}
use Rattle.acl_broker.specs.Points.{Point, BrokerState, StandsAt, is_among}
use Rattle.acl_broker.specs.Steps.{History, Meets, TakeMeets, AllMeet, after, after_step, submit_result, take_result, waiting_at, extended, accepted_in, taken_in, closed_in, cancelled_in, GoesOnAll}
use Rattle.acl_broker.specs.Headline.{NoneAcceptedAfter, NoneTakenAfter, Merges}
use Rattle.acl_broker.specs.declared.steps.Refused.{Refused}
use Rattle.acl_broker.specs.declared.steps.SubmitRefusal.TheVariants as refusal
use Rattle.acl_broker.specs.declared.steps.TakeRefused.{TakeRefused}
use Rattle.acl_broker.specs.declared.steps.CloseRefused.{CloseRefused}
use Rattle.acl_broker.specs.declared.steps.CancelRefused.{CancelRefused}
use Rattle.acl_broker.specs.declared.steps.TakeRefused.TheVariants as take_refused
use Rattle.acl_broker.specs.declared.steps.Step.{Step}
use Rattle.acl_broker.specs.declared.steps.Step.TheVariants.{Submit, Take, Answer, Close, Cancel}
use Rattle.acl_broker.specs.declared.steps.StepResult.{StepResult}
use Rattle.acl_broker.specs.declared.steps.StepResult.TheVariants.{Submitted, Taken, Answered, ClosedNow, CancelledNow}
use Rattle.acl_broker.proofs.EachSessions.{of_session}
use Rattle.acl_broker.proofs.StepsCases.{by_cases}
use Rattle.acl_broker.proofs.StepsAdd.{adds}

-- no item is accepted of a session that is closed or cancelled
shut_refuses : {I : Type 0} (known closed cancelled : Bool) (waiting : List I) (item : I) (done : Unit) → closed || cancelled ≡ true
    → Ok done ≡ (if known then submit_answer closed cancelled waiting item else Err (record { why = refusal.UnknownSession; item = item })) → ⊥
shut_refuses false closed cancelled waiting item done shut met = cc
shut_refuses true true cancelled waiting item done shut met = cc
shut_refuses true false true waiting item done shut met = cc
shut_refuses true false false waiting item done shut met = cc

-- nothing is taken of a session that is cancelled
cancel_refuses : {I : Type 0} (known cancelled : Bool) (waiting : List I) (place n : ℕ) → cancelled ≡ true
    → Ok place ≡ (if known then (if nat_lt 0 (length (if cancelled then [] else waiting)) then Ok n else Err take_refused.Empty) else Err take_refused.UnknownSession) → ⊥
cancel_refuses false cancelled waiting place n shut met = cc
cancel_refuses true true waiting place n shut met = cc
cancel_refuses true false waiting place n shut met = cc

no_place : {A E : Type 0} (place : A) (why : E) → Ok place ≡ Err why → ⊥
no_place place why e = cc

left_true : (a b : Bool) → a ≡ true → a || b ≡ true
left_true true b a_true = refl
left_true false b a_true = cc

right_true : (a b : Bool) → b ≡ true → a || b ≡ true
right_true true b b_true = refl
right_true false b b_true = b_true

or_more : (a b c : Bool) → (b ≡ true → c ≡ true) → a || b ≡ true → a || c ≡ true
or_more true b c more one = refl
or_more false b c more one = more one

-- who is among some is among more
among_more : (sessions more : List ℕ) (session : ℕ) → is_among session sessions ≡ true → is_among session (sessions ++ more) ≡ true
among_more [] more session among = cc
among_more (first ∷ sessions) more session among = or_more (first == session) (is_among session sessions) (is_among session (sessions ++ more)) (among_more sessions more session) among

not_first : (test rest : Bool) → test ≡ false → test || rest ≡ rest
not_first true rest isnt = cc
not_first false rest isnt = refl

module _ {State I R : Type 0} (next : State → I → State) (reply : State → I → R) where
  -- an accepted item is of another session than one that is closed or cancelled
  submits_other : (point : Point State I R) (session other : ℕ) (item : I) (done : Unit)
      → is_among session point.closed || is_among session point.cancelled ≡ true
      → Ok done ≡ submit_result next reply point other item → eqb other session ≡ false
  submits_other point session other item done shut met = elim (eqb_tells other session) [
    | inl same ↦ absurd (shut_refuses (nat_lt session point.sessions) (is_among session point.closed)
        (is_among session point.cancelled) (waiting_at next reply point session) item done shut
        (subst (λ at. Ok done ≡ submit_result next reply point at item) same.1 met))
    | inr differs ↦ differs.0
  ]

  -- a place in the journal is that of another session than one that is cancelled
  takes_other : (point : Point State I R) (session other place : ℕ) → is_among session point.cancelled ≡ true → TakeMeets next reply point other (Ok place) → eqb other session ≡ false
  takes_other point session other place shut (inl met) = elim (eqb_tells other session) [
    | inl same ↦ absurd (cancel_refuses (nat_lt session point.sessions) (is_among session point.cancelled)
        (drop (length (items_from session point.journal)) (point.accepted session)) place
        (length point.journal) shut (subst (λ at. Ok place ≡ take_result next reply point at) same.1 met))
    | inr differs ↦ differs.0
  ]
  takes_other point session other place shut (inr met) = absurd (no_place place take_refused.Memory met.1)

  -- a step leaves the sessions that ended ended, and adds nothing of theirs
  record Leaves (point : Point State I R) (step : Step I) (result : StepResult I R) : Type 0 where
    pub closed : (session : ℕ) → is_among session point.closed ≡ true → is_among session (after_step next reply point step result).closed ≡ true
    pub cancelled : (session : ℕ) → is_among session point.cancelled ≡ true → is_among session (after_step next reply point step result).cancelled ≡ true
    pub accepts : (session : ℕ) (later : History I R) → is_among session point.closed
        || is_among session point.cancelled ≡ true → accepted_in
        ((step, result) ∷ later) session ≡ accepted_in later session
    pub takes : (session : ℕ) (later : History I R) → is_among session point.cancelled ≡ true → is_among session (taken_in ((step, result) ∷ later)) ≡ is_among session (taken_in later)

  leaves_submit : (point : Point State I R) (other : ℕ) (item : I) (result : Result Unit (Refused I))
      → result ≡ submit_result next reply point other item → Leaves point (Submit other item) (Submitted result)
  leaves_submit point other item (Ok done) met = record {
    closed = λ session is. is;
    cancelled = λ session is. is;
    accepts = λ session later shut. cond-false (eqb other session) (item ∷ accepted_in later session) (accepted_in later session) (submits_other point session other item done shut met);
    takes = λ session later shut. refl;
  }
  leaves_submit point other item (Err why) met = record { closed = λ session is. is; cancelled = λ session is. is; accepts = λ session later shut. refl; takes = λ session later shut. refl }

  leaves_take : (point : Point State I R) (other : ℕ) (result : Result ℕ TakeRefused) → TakeMeets next reply point other result → Leaves point (Take other) (Taken result)
  leaves_take point other (Ok place) met = record {
    closed = λ session is. is;
    cancelled = λ session is. is;
    accepts = λ session later shut. refl;
    takes = λ session later shut. not_first (eqb other session) (is_among session (taken_in later)) (takes_other point session other place shut met);
  }
  leaves_take point other (Err why) met = record { closed = λ session is. is; cancelled = λ session is. is; accepts = λ session later shut. refl; takes = λ session later shut. refl }

  leaves_answer : (point : Point State I R) (other : ℕ) (result : Option R) → Leaves point (Answer other) (Answered result)
  leaves_answer point other (Some answer) = record { closed = λ session is. is; cancelled = λ session is. is; accepts = λ session later shut. refl; takes = λ session later shut. refl }
  leaves_answer point other None = record { closed = λ session is. is; cancelled = λ session is. is; accepts = λ session later shut. refl; takes = λ session later shut. refl }

  leaves_close : (point : Point State I R) (other : ℕ) (result : Result Unit CloseRefused) → Leaves point (Close other) (ClosedNow result)
  leaves_close point other (Ok done) = record {
    closed = λ session. among_more point.closed
        (other ∷ []) session;
    cancelled = λ session is. is;
    accepts = λ session later shut. refl;
    takes =
        λ session later shut. refl;
  }
  leaves_close point other (Err why) = record { closed = λ session is. is; cancelled = λ session is. is; accepts = λ session later shut. refl; takes = λ session later shut. refl }

  leaves_cancel : (point : Point State I R) (other : ℕ) (result : Result Unit CancelRefused) → Leaves point (Cancel other) (CancelledNow result)
  leaves_cancel point other (Ok done) = record {
    closed = λ session is. is;
    cancelled = λ session. among_more
        point.cancelled (other ∷ []) session;
    accepts = λ session later shut. refl;
    takes = λ session later shut. refl;
  }
  leaves_cancel point other (Err why) = record { closed = λ session is. is; cancelled = λ session is. is; accepts = λ session later shut. refl; takes = λ session later shut. refl }

  leaves : (point : Point State I R) (step : Step I) (result : StepResult I R) → Meets next reply point step result → Leaves point step result
  leaves point = by_cases next reply point (Leaves point) (record {
    submit = leaves_submit point;
    take = leaves_take point;
    answer = λ session result met. leaves_answer point session result;
    close = λ session result met. leaves_close point session result;
    cancel = λ session result met. leaves_cancel point session result;
  })

  accepted_of_closed : (point : Point State I R) (later : History I R) (session : ℕ) → AllMeet next reply point later → is_among session point.closed ≡ true → accepted_in later session ≡ []
  accepted_of_closed point [] session met shut = refl
  accepted_of_closed point (done ∷ later) session met shut =
      let step = leaves point done.0 done.1 met.0 in
      step.accepts session later (left_true (is_among session point.closed)
      (is_among session point.cancelled) shut) ∙ accepted_of_closed
      (after_step next reply point done.0 done.1) later session met.1 (step.closed session shut)

  accepted_of_cancelled : (point : Point State I R) (later : History I R) (session : ℕ) → AllMeet next reply point later → is_among session point.cancelled ≡ true → accepted_in later session ≡ []
  accepted_of_cancelled point [] session met shut = refl
  accepted_of_cancelled point (done ∷ later) session met shut =
      let step = leaves point done.0 done.1 met.0 in
      step.accepts session later (right_true (is_among session point.closed)
      (is_among session point.cancelled) shut) ∙ accepted_of_cancelled
      (after_step next reply point done.0 done.1) later session met.1 (step.cancelled session shut)

  taken_of_cancelled : (point : Point State I R) (later : History I R) (session : ℕ)
      → AllMeet next reply point later → is_among session point.cancelled ≡ true
      → is_among session (taken_in later) ≡ false
  taken_of_cancelled point [] session met shut = refl
  taken_of_cancelled point (done ∷ later) session met shut =
      let step = leaves point done.0 done.1 met.0 in
      step.takes session later shut ∙ taken_of_cancelled (after_step next reply point done.0 done.1) later session met.1 (step.cancelled session shut)

  -- the steps behind a cut go on from the point at the cut
  all_meet_cut : (point : Point State I R) (before later : History I R)
      → AllMeet next reply point (before ++ later) → AllMeet next reply point before
      × AllMeet next reply (after next reply point before) later
  all_meet_cut point [] later met = (tt, met)
  all_meet_cut point (done ∷ before) later met =
      let rest = all_meet_cut (after_step next reply point done.0 done.1) before later met.1 in
      ((met.0, rest.0), rest.1)

  -- what holds behind the point at a cut, from what the steps before it added
  module _ (point : Point State I R) (history : History I R) (met : AllMeet next reply point history) where
    none_after_close : NoneAcceptedAfter closed_in point.closed history
    none_after_close session before later cut ended =
        let parts = all_meet_cut point before later (subst (λ steps. AllMeet next reply point steps) cut met) in
        accepted_of_closed (after next reply point before) later session parts.1
        (ap (λ (there : Point State I R). is_among session there.closed)
        (adds next reply point before parts.0).point_is ∙ ended)

    none_after_cancel : NoneAcceptedAfter cancelled_in point.cancelled history
    none_after_cancel session before later cut ended =
        let parts = all_meet_cut point before later (subst (λ steps. AllMeet next reply point steps) cut met) in
        accepted_of_cancelled (after next reply point before) later session parts.1
        (ap (λ (there : Point State I R). is_among session there.cancelled)
        (adds next reply point before parts.0).point_is ∙ ended)

    none_taken_after_cancel : NoneTakenAfter cancelled_in point.cancelled history
    none_taken_after_cancel session before later cut ended =
        let parts = all_meet_cut point before later (subst (λ steps. AllMeet next reply point steps) cut met) in
        taken_of_cancelled (after next reply point before) later session parts.1
        (ap (λ (there : Point State I R). is_among session there.cancelled)
        (adds next reply point before parts.0).point_is ∙ ended)

  -- the headline, of steps that meet the table
  pub merges : (old new : BrokerState State I R) (history : History I R) → GoesOnAll next reply old history new → Merges next reply old history new
  merges old new history run = λ point stands.
      let ran = run point stands in
      let added = adds next reply point history ran.0 in
      let stood : StandsAt next reply (extended point history added.entries) new = subst (λ there. StandsAt next reply there new) added.point_is ran.1 in
      record {
        merge = (
          subst (λ journal. AllByRecursion (λ entry. entry.session < point.sessions) journal) (sym stood.journal) stood.known,
          λ session below. subst (λ journal. IsPrefix (items_from session journal)
              (point.accepted session ++ accepted_in history session)) (sym stood.journal)
              (of_session _ _ _ stood.lanes session fresh_lane below).merged,
        );
        takes = (added.entries, stood.journal, added.taken);
        none_after_close = none_after_close point history ran.0;
        none_after_cancel = none_after_cancel point history ran.0;
        none_taken_after_cancel = none_taken_after_cancel point history ran.0;
        answers = λ session below. (
          (get_or new.lanes session fresh_lane).owed,
          (of_session _ _ _ stood.lanes session fresh_lane below).answered
              ∙ ap (λ journal. answers_to next reply session point.opening journal) (sym stood.journal),
        );
        state = stood.state ∙ ap (λ journal. state_after next point.opening journal) (sym stood.journal);
      }

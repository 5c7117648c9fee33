-- What the workers hand on, and what a run begins with.
use Rattle.std.specs.declared.vec.Vec.{Vec}
use Rattle.std.specs.declared.alloc.Global.{Global}
use Rattle.std.proofs.Common.{ap, sym, ◌∙◌, subst, arith, get_or, ◌≡◌, ◌≢◌, ℕ, zero, suc, ◌<◌, Bool, List, [], length, map, refl, Option, Some, None}
use Rattle.std.proofs.lemmas.Bool.{both_ways}
use Rattle.std.proofs.lemmas.List.{get_or-map, get_or-replicate, length-replicate, length-map}
use Rattle.acl_broker.specs.Journal.{answers_to}
use Rattle.acl_broker.specs.Ends.{AreEndsOf, StaysEndOf, KeepEnds}
use Rattle.acl_broker.specs.Lanes.{fresh_lane}
use Rattle.acl_broker.specs.Points.{BrokerState, StandsAt}
use Rattle.acl_broker.specs.Brokers.{opening_point, AreSplitOf}
use Rattle.acl_broker.specs.Takers.{TakerState, Keeps}
use Rattle.acl_broker.specs.declared.end.End.{End}
use Rattle.acl_broker.specs.declared.taker_side.TakerSide.{TakerSide}
use Rattle.acl_broker.proofs.EachSessions.{of_session, as_many}
use Rattle.acl_runs.specs.ErrorLimit.{errors_in}
use Rattle.acl_runs.specs.Handling.{Handling}
use Rattle.acl_runs.specs.Taking.{made, AreLimited, StartsWith}
use Rattle.acl_runs.specs.Workers.{IsServed}
use Rattle.acl_runs.specs.Threads.{IsReady, Handle, AreStarted, AreGathered, AreServed}
use Rattle.acl_runs.specs.declared.error_limits.ErrorLimits.{ErrorLimits}
use Rattle.acl_runs.specs.declared.workers.Gathered.{Gathered}
use Rattle.acl_runs.proofs.LimitLemmas.{some_item}

module _ {C P I R K : Type 0} (rest : C → List I) (handling : P → Handling R K) (replies : P)
    (limit : Option ℕ) (ends : List (End I R)) (sessions : List C) (workers : List (Handle C P I R K))
    (gathered : Gathered I R K) (started : AreStarted replies limit ends sessions workers)
    (joined : AreGathered rest handling workers gathered) where
  -- what one worker hands on, of the end and the requests with which it was started
  served_at : (k : ℕ) (requests : C) (end : End I R) (answers : Vec K Global) (output : Vec ℕ Global) → k < length sessions
      → IsServed (handling replies) limit (rest (get_or sessions k requests))
      (get_or gathered.ends.items k end) (get_or gathered.answers.items k answers).items
      (get_or gathered.outputs.items k output).items
  served_at k requests end answers output below =
      let worker : Handle C P I R K = some_item workers k (omega (arith, below, started.count)) in
      let promise = (get_or workers k worker).promise in
      let begun = started.each k end requests worker below in
      let kept = (joined.each k worker end answers output (omega (arith, below, started.count))).served in
      subst (λ r. IsServed (handling r) limit (rest (get_or sessions k requests))
      (get_or gathered.ends.items k end) (get_or gathered.answers.items k answers).items
      (get_or gathered.outputs.items k output).items) begun.replies_are
      (subst (λ l. IsServed (handling promise.replies.now) l (rest (get_or sessions k requests))
      (get_or gathered.ends.items k end) (get_or gathered.answers.items k answers).items
      (get_or gathered.outputs.items k output).items) begun.max_errors_is
      (subst (λ c. IsServed (handling promise.replies.now) promise.max_errors (rest c)
      (get_or gathered.ends.items k end) (get_or gathered.answers.items k answers).items
      (get_or gathered.outputs.items k output).items) begun.requests_are kept))

  stays_at : (k : ℕ) (end : End I R) → length ends ≡ length sessions → k < length sessions → StaysEndOf (get_or ends k end) (get_or gathered.ends.items k end)
  stays_at k end count below =
      let worker : Handle C P I R K = some_item workers k (omega (arith, below, started.count)) in
      let requests : C = some_item sessions k below in
      let answers : Vec K Global = some_item gathered.answers.items k (omega (arith, below, started.count, joined.answers)) in
      let output : Vec ℕ Global = some_item gathered.outputs.items k (omega (arith, below, started.count, joined.outputs)) in
      subst (λ start. StaysEndOf start (get_or gathered.ends.items k end)) (started.each k end requests worker below).start
      (joined.each k worker end answers output (omega (arith, below, started.count))).stays

  pub are_served : AreServed (handling replies) limit (map rest sessions) gathered
  are_served =
      let count : length (map rest sessions) ≡ length workers = length-map sessions rest ∙ sym started.count in
      record {
        ends = joined.ends ∙ sym count;
        answers = joined.answers ∙ sym count;
        outputs = joined.outputs ∙ sym count;
        each = λ k none end answers output below.
            let within : k < length sessions = omega (arith, below, count, started.count) in
            let requests : C = some_item sessions k within in
            subst (λ wanted. IsServed (handling replies) limit wanted (get_or gathered.ends.items k end)
            (get_or gathered.answers.items k answers).items
            (get_or gathered.outputs.items k output).items) (sym (get_or-map rest sessions k requests none within))
            (served_at k requests end answers output within);
      }

  pub are_ends_of : (sides sides' : List (TakerSide I R)) → length ends ≡ length sessions → AreEndsOf ends sides → KeepEnds sides sides' → AreEndsOf gathered.ends.items sides'
  are_ends_of sides sides' count are keep =
      let kept = keep ends are in (
        joined.ends ∙ started.count ∙ sym count ∙ kept.0,
        λ k end side below.
            stays_at k end count (omega (arith, below, kept.0, count)) k (get_or sides' k side) (kept.1 k end side below),
      )

module _ {State I R : Type 0} (next : State → I → State) (reply : State → I → R) where
  -- the halves of a broker that was opened and split
  pub ready_of : (service : State) (sessions : ℕ) (broker : BrokerState State I R) (ends : List (End I R))
      (taker : TakerState State I R) → StandsAt next reply (opening_point service sessions) broker
      → length ends ≡ length broker.lanes → AreEndsOf ends taker.sides
      → AreSplitOf broker.lanes ends taker.sides → taker.journal ≡ broker.journal → IsReady sessions ends taker
  ready_of service sessions broker ends taker stands count are split journal =
      record {
        count = count ∙ as_many _ _ _ stands.lanes;
        pairs = are;
        fresh = λ session end below.
            let within : session < length broker.lanes = omega (arith, below, count) in
            let side : TakerSide I R = some_item taker.sides session (omega (arith, below, are.0)) in
            let one = split session fresh_lane end side within in
            let at = of_session _ _ _ stands.lanes session fresh_lane (omega (arith, within, as_many _ _ _ stands.lanes)) in
            (one.open_end, one.sent ∙ at.accepted, one.polled ∙ at.polled);
        journal = journal ∙ stands.journal;
        live = λ session side below.
            let within : session < length broker.lanes = omega (arith, below, count, are.0) in
            let end : End I R = some_item ends session (omega (arith, below, are.0)) in
            (split session fresh_lane end side within).cancelled;
      }

module _ {State I R : Type 0} (next : State → I → State) (reply : State → I → R) (is_error : R → Bool) where
  positive : (allowed : ℕ) → Some allowed ≢ Some 0 → 0 < allowed
  positive zero some = absurd (some refl)
  positive (suc allowed) some = omega arith

  -- the limits with which a run begins
  pub limits_begin : (opening : State) (sessions : ℕ) (ends : List (End I R)) (taker : TakerState State I R)
      (limit : Option ℕ) (limits : ErrorLimits) → IsReady sessions ends taker → Keeps next reply opening taker
      → limit ≢ Some 0 → StartsWith limit sessions limits → AreLimited is_error limit limits taker.sides
  limits_begin opening sessions ends taker None limits ready keeps some starts = tt
  limits_begin opening sessions ends taker (Some allowed) limits ready keeps some starts =
      let count : sessions ≡ length taker.sides = sym ready.count ∙ ready.pairs.0 in (
        ap length starts ∙ length-replicate sessions allowed ∙ count,
        λ session left side below.
            let answers : made (get_or taker.sides session side) ≡ [] = (of_session _ _ _ keeps.sides session side below).answered ∙ ap (λ entries. answers_to next reply session opening entries) ready.journal in
            let left_is : get_or limits.left.items session left
            ≡ allowed = ap (λ items. get_or items session left) starts
            ∙ get_or-replicate sessions session allowed left (omega (arith, below, count)) in
            record {
              live = λ _. (omega (arith, left_is, positive allowed some), omega (arith, left_is, ap (λ all. errors_in is_error all) answers));
              over = λ over. absurd (both_ways (get_or taker.sides session side).cancelled (ready.live session side below) over);
            },
      )

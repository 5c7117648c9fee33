-- A step on one lane of a broker, from the lane's end and its taker's side.
use Rattle.std.proofs.Common.{sym, arith, subst, get_or, set, ◌≡◌, ℕ, ◌<◌, ◌≤◌, true, false, List, nat_lt, vec_len}
use Rattle.acl_broker.specs.TakerSides.{SameTaker}
use Rattle.acl_broker.specs.Ends.{AreLanes, lane_of, lanes_of}
use Rattle.acl_broker.specs.Brokers.{view}
use Rattle.acl_broker.specs.Points.{Point, StandsAt}
use Rattle.acl_broker.specs.Steps.{GoesOn}
use Rattle.acl_broker.specs.declared.steps.JournalEntry.{JournalEntry}
use Rattle.acl_broker.specs.declared.steps.Step.{Step}
use Rattle.acl_broker.specs.declared.steps.StepResult.{StepResult}
use Rattle.acl_broker.specs.declared.broker.Broker.{Broker}
use Rattle.acl_broker.specs.declared.service.Service.{Ghosts}
use Rattle.acl_broker.specs.declared.end.End.{End}
use Rattle.acl_broker.specs.declared.taker_side.TakerSide.{TakerSide}
use Rattle.acl_broker.proofs.LaneLists.{Lies, lies_at, lane_below, lane_read, lanes_after_side, lanes-set, lanes-set_side, length-lanes}
use Rattle.acl_broker.proofs.StepsStand.{Lane, unknown_session}

module _ {State I R K : Type 0} {service : Ghosts State I R K} (broker : Broker State I R K service) (session : ℕ) where
  abbrev ends : List (End I R)
  ends = broker.ends.items

  abbrev sides : List (TakerSide I R)
  sides = broker.taker.sides.items

  -- the lane of a session whose end and taker's side were read
  pub lies_in : {end : End I R} {side : TakerSide I R} → session < vec_len broker.taker.sides → end ≡ get_or ends session end → side ≡ get_or sides session side → Lies ends sides session end side
  lies_in below end_read side_read = record { lanes = broker.lanes; below = omega (arith, below, broker.taker.sides.ok.0); end_read = end_read; side_read = side_read }

  lies_beside : (side : TakerSide I R) → session < vec_len broker.taker.sides → side ≡ get_or sides session side → (end : End I R) × Lies ends sides session end side
  lies_beside side below read = lies_at ends sides session side broker.lanes (omega (arith, below, broker.taker.sides.ok.0)) read

  -- the taker's side of a lane changed alone
  pub lanes_beside : (side side' : TakerSide I R) → session < vec_len broker.taker.sides
      → side ≡ get_or sides session side → SameTaker side side' → (side.closed ≡ true → side'.closed ≡ true)
      → AreLanes ends (set sides session side')
  lanes_beside side side' below read = lanes_after_side (lies_beside side below read).1 side'

  -- a session above all lanes is unknown, wherever the broker stands
  pub unknown_lane : vec_len broker.taker.sides ≤ session → (point : Point State I R) → StandsAt service.next service.reply point (view broker) → nat_lt session point.sessions ≡ false
  unknown_lane above point stands = unknown_session service.next service.reply point
      (view broker) session stands (omega (
        arith,
        above,
        length-lanes ends sides broker.lanes.0,
        broker.taker.sides.ok.0,
      ))

  lane_in : {end : End I R} {side : TakerSide I R} → Lies ends sides session end side → Lane service.next service.reply (view broker) session (lane_of end side)
  lane_in lies = record { below = lane_below lies; read = lane_read lies }

  -- both sides of the lane changed
  pub goes_on_with : (service' : State) (journal' : List (JournalEntry I)) {end : End I R} (end' : End I R)
      {side : TakerSide I R} (side' : TakerSide I R) → Lies ends sides session end side
      → (step : Step I) (result : StepResult I R)
      → (Lane service.next service.reply (view broker) session (lane_of end side)
      → GoesOn service.next service.reply (view broker) step result
      (record {
        service = service';
        journal = journal';
        lanes = set (lanes_of ends sides) session
            (lane_of end' side');
      }))
      → GoesOn service.next service.reply (view broker) step result (record { service = service'; journal = journal'; lanes = lanes_of (set ends session end') (set sides session side') })
  goes_on_with service' journal' end' side' lies step result goes =
      subst (λ lanes. GoesOn service.next service.reply (view broker) step result
      (record { service = service'; journal = journal'; lanes = lanes }))
      (sym (lanes-set ends sides session end' side')) (goes (lane_in lies))

  -- the taker's side of the lane changed alone
  pub goes_on_beside : (side side' : TakerSide I R) → session < vec_len broker.taker.sides → side ≡ get_or sides session side → (step : Step I) (result : StepResult I R)
      → ((end : End I R) → Lane service.next service.reply (view broker) session (lane_of end side)
      → GoesOn service.next service.reply (view broker) step result
      (record (view broker) { lanes = set (lanes_of ends sides) session (lane_of end side') }))
      → GoesOn service.next service.reply (view broker) step result (record (view broker) { lanes = lanes_of ends (set sides session side') })
  goes_on_beside side side' below read step result goes =
      let lies = lies_beside side below read in
      subst (λ lanes. GoesOn service.next service.reply (view broker) step result (record (view broker) { lanes = lanes })) (sym (lanes-set_side lies.1 side')) (goes lies.0 (lane_in lies.1))

-- A session whose end mark was popped has closed.
use Rattle.std.proofs.Common.{ap, sym, ◌∙◌, get_or, ◌≡◌, true, List, ◌++◌, refl}
use Rattle.std.proofs.lemmas.Bool.{both_ways}
use Rattle.rtrb.specs.Ring as ring
use Rattle.acl_broker.specs.Messages.{items_of, has_end_mark}
use Rattle.acl_broker.specs.Ends.{EachLaneSatisfies, EndsByClose, EndSeen, AreSeen, AreEndsOf, side_of, is_closed}
use Rattle.acl_broker.specs.declared.end.End.{End}
use Rattle.acl_broker.specs.declared.end.End.TheVariants.{Open, Closed}
use Rattle.acl_broker.specs.declared.taker_side.TakerSide.{TakerSide}
use Rattle.acl_broker.proofs.RingEntries.{items_of-append_marked, has_end_mark-append_marked}

module _ {I R : Type 0} where
  -- an end that has pushed its mark is closed
  closed_by_mark : (end : End I R) → has_end_mark (ring.sent (side_of end).entries) ≡ true → is_closed end ≡ true
  closed_by_mark (Open end) marked = absurd (both_ways (has_end_mark (ring.sent end.side.entries)) end.unmarked marked)
  closed_by_mark (Closed end) marked = refl

  -- seen from both sides, what was received is the front of what was sent
  ends_by_close : (session : _) (end end' : End I R) (taker taker' : TakerSide I R) → EndSeen end taker end' taker' → EndsByClose session end taker
  ends_by_close session end end' taker taker' seen = λ ended.
      let received = ring.received taker.entries in
      let known = ring.known_items taker'.entries in
      let fifo : received ++ known ≡ ring.sent (side_of end).entries = ap (λ out. out ++ known) (sym seen.lane.received) ∙ seen.lane.entries ∙ seen.lane.sent in (
        closed_by_mark end (ap has_end_mark (sym fifo) ∙ has_end_mark-append_marked received known ended),
        sym (items_of-append_marked received known ended) ∙ ap items_of fifo,
      )

  pub end_by_close : (ends ends' : List (End I R)) (sides sides' : List (TakerSide I R)) → AreEndsOf ends sides → AreSeen ends sides ends' sides' → EachLaneSatisfies EndsByClose ends sides
  end_by_close ends ends' sides sides' are seen = (
    are.0,
    λ s e t below. ends_by_close s (get_or ends s e) (get_or ends' s e) (get_or sides s t) (get_or sides' s t) (seen.each s e t below),
  )

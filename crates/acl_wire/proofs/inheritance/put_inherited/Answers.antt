use Rattle.std.proofs.Common.{◌≡◌, ◌∙◌, ◌++◌, ◌∷◌, [], ap, sym, arith, length, length-append}
use Rattle.acl_wire.proofs.PlacesLoop.{inherited_all, inherited_next, inherited_none}
use Rattle.acl_wire.proofs.inheritance.put_inherited.Goals as goal
use Rattle.acl_wire.proofs.inheritance.put_inherited.Goals.{in-Some, in_default}

pub loop-place-preserved : goal.loop-place-preserved
loop-place-preserved g c = elim c.match-inherited.branch [
  | in-Some w ↦
      let items : c.match-inherited.draft.items ≡ c.loop-place.draft.items ++ w.in-Some.below ∷ [] = rw w.draft-is w.push.ensures.items in
      let made = inherited_next c.args.raws.now c.args.aces.now c.requires.same c.loop-place.place c.args.kind c.loop-place.draft.items _ c.loop-place.invariant.0
      c.loop-place-test.true c.index-aces-place.result c.index-aces-place.is w.in-Some.below (sym w.in-Some.is ∙ c.inherited.ensures) in
      (rw items made, omega (arith, ap length items, length-append c.loop-place.draft.items (w.in-Some.below ∷ []), c.loop-place.invariant.1))
  | in_default w ↦
      let made = inherited_none c.args.raws.now c.args.aces.now c.requires.same c.loop-place.place c.args.kind c.loop-place.draft.items _ c.loop-place.invariant.0
      c.loop-place-test.true c.index-aces-place.result c.index-aces-place.is (sym w.in_default.is ∙ c.inherited.ensures) in
      rw w.draft-is (made, omega (arith, c.loop-place.invariant.1))
]

pub returns-clause-value : goal.returns-clause-value
returns-clause-value g c =
    inherited_all c.args.raws.now c.args.aces.now c.requires.same c.loop-place.place c.args.kind c.loop-place.draft.items _ c.loop-place.invariant.0 c.loop-place-test.false

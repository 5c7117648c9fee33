use Rattle.std.proofs.Common.{◌≡◌, ◌∙◌, ◌+◌, ◌-◌, ◌<◌, ◌==◌, cond, Some, nat_eq, drop, length, sym, ap, arith}
use Rattle.std.specs.HashMap.{get}
use Rattle.std.specs.List.{position_from}
use Rattle.std.proofs.lemmas.Iterator.Adapters.{position_from-zero}
use Rattle.acl_accounts.proofs.PlaceLemmas.{position_step}
use Rattle.acl_accounts.proofs.places.places_by_id.Goals as goal

pub loop-place-preserved : goal.loop-place-preserved
loop-place-preserved g c =
    let id_of = g.T.Numbered.id_of in
    let members = c.args.members.now in
    let at = c.loop-place.place - 1 in
    let member = c.index-members-place.result in
    let next : at + 1 ≡ c.loop-place.place = omega (arith, c.loop-place-test.true) in
    let inside : at < length members = omega (arith, c.loop-place-test.true, c.loop-place.invariant.within) in
    record {
      within = omega (arith, c.loop-place.invariant.within);
      first = λ id.
          c.in_ok-insert.ensures.updates.0 id
          ∙ ap (λ key. cond (nat_eq key id) (Some at) (get nat_eq c.loop-place.places id)) c.id.ensures
          ∙ ap (cond (nat_eq (id_of member) id) (Some at))
          (c.loop-place.invariant.first id ∙ sym (ap (λ n. position_from (λ other. id_of other == id) n (drop n members)) next))
          ∙ sym (position_step (λ other. id_of other == id) members at member inside (sym c.index-members-place.is));
    }

pub returns : goal.returns
returns g c = λ id.
    let id_of = g.T.Numbered.id_of in
    let members = c.args.members.now in
    let first : c.loop-place.place ≡ 0 = omega (arith, c.loop-place-test.false) in
    c.loop-place.invariant.first id
    ∙ ap (λ n. position_from (λ other. id_of other == id) n (drop n members)) first
    ∙ sym (position_from-zero (λ other. id_of other == id) members)

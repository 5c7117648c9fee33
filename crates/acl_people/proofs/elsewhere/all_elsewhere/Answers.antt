use Rattle.std.proofs.Common.{◌≡◌, ◌∙◌, List, Some, map, subst, sym, take}
use Rattle.std.specs.Prelude.{slice_get}
use Rattle.acl_people.specs.Asked.{ArePeople}
use Rattle.acl_people.specs.Elsewhere.{elsewhere}
use Rattle.acl_people.specs.Person.{Person}
use Rattle.acl_people.proofs.ElsewhereLemmas.{more_there, nobody_left}
use Rattle.acl_people.proofs.elsewhere.all_elsewhere.Goals as goal

pub returns-in_default : goal.returns-in_default
returns-in_default c persons are =
    let shown = elsewhere c.args.host.now in
    let none = sym c.in_default.is ∙ c.in_ok-other.ensures persons are in
    subst (λ (those : List Person). ArePeople those c.loop-place.others) (nobody_left shown persons c.loop-place.place none) (c.loop-place.invariant persons are)

pub loop-place-preserved : goal.loop-place-preserved
loop-place-preserved c persons are =
    let shown = elsewhere c.args.host.now in
    let it : slice_get (map shown persons) c.loop-place.place ≡ Some c.in-Some.other = sym (c.in_ok-other.ensures persons are) ∙ c.in-Some.is in
    subst (λ (those : List Person). ArePeople those c.push.new.self) (sym (more_there shown persons c.loop-place.place c.in-Some.other it))
    (c.in_ok-push.ensures (map shown (take c.loop-place.place persons)) (c.loop-place.invariant persons are))

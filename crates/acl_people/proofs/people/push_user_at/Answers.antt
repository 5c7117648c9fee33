use Rattle.std.proofs.Common.{◌≡◌, ◌∙◌, List, OnOk, Some, true, false, subst, sym}
use Rattle.std.specs.Prelude.{slice_get}
use Rattle.acl_people.specs.Asked.{ArePeople}
use Rattle.acl_people.specs.People.{everyone}
use Rattle.acl_people.specs.Person.{Person, is_root}
use Rattle.acl_people.proofs.PeopleLemmas.{people_more, people_root}
use Rattle.acl_people.proofs.people.push_user_at.Goals as goal

pub returns-then-is_root : goal.returns-then-is_root
returns-then-is_root c before =
    let all = everyone c.args.accounts.now in
    let is : slice_get all c.args.place ≡ Some c.in-Some.person = sym c.in_ok-person.ensures ∙ c.in-Some.is in
    let root : is_root c.in-Some.person ≡ true = sym c.is_root.ensures ∙ c.if-is_root.true in
    subst (λ (persons : List Person). ArePeople persons c.args.people.now) (sym (people_root all c.args.place c.in-Some.person is root)) before

pub returns : goal.returns
returns c before =
    let all = everyone c.args.accounts.now in
    let is : slice_get all c.args.place ≡ Some c.in-Some.person = sym c.in_ok-person.ensures ∙ c.in-Some.is in
    let other : is_root c.in-Some.person ≡ false = sym c.is_root.ensures ∙ c.if-is_root.false in
    subst (λ (persons : List Person). OnOk c.push.result (ArePeople persons c.push.new.self)) (sym (people_more all c.args.place c.in-Some.person is other))
    (c.push.ensures _ before)

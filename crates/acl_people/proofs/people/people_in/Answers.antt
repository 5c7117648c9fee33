use Rattle.std.proofs.Common.{◌≡◌, ◌++◌, ◌∷◌, [], Err, map, rules}
use Rattle.acl_names.specs.ReadList.{each_read}
use Rattle.acl_cli.proofs.FailureLemmas.{Explains-as}
use Rattle.acl_people.specs.People.{person_in}
use Rattle.acl_people.proofs.PeopleLemmas.{refused_at, said_all, said_more, text_at}
use Rattle.acl_people.proofs.people.people_in.Goals as goal

pub returns-in_err-person-clause-refused : goal.returns-in_err-person-clause-refused
returns-in_err-person-clause-refused c =
    let texts = c.args.texts.now in
    let asked = person_in c.args.host.now in
    let so_far = c.loop-text.invariant in
    let is : c.from_residual.result ≡ Err c.in_err-person.field-0.0 = search rules in
    rw is (Explains-as (asked (text_at texts c.loop-text.text-index _ c.loop-text-test.true)) (each_read asked (map (λ text. text.now) texts))
    (refused_at texts c.loop-text.text-index _ c.loop-text-test.true asked so_far.0 so_far.2) c.in_err-person.field-0.0 c.in_err-person.ensures.refused)

pub loop-text-preserved : goal.loop-text-preserved
loop-text-preserved c =
    let texts = c.args.texts.now in
    let so_far = c.loop-text.invariant in (
      so_far.0 ++ c.in_ok-person.person ∷ [],
      c.in_ok-push.ensures so_far.0 so_far.1,
      said_more texts c.loop-text.text-index _ c.loop-text-test.true (person_in c.args.host.now) so_far.0 so_far.2 c.in_ok-person.person c.in_ok-person.ensures.read,
    )

pub returns-clause-read : goal.returns-clause-read
returns-clause-read c =
    let so_far = c.loop-text.invariant in
    (so_far.0, so_far.1, said_all c.args.texts.now c.loop-text.text-index (person_in c.args.host.now) so_far.0 c.loop-text-test.false so_far.2)

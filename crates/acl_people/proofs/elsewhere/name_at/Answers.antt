use Rattle.std.proofs.Common.{◌∙◌, arith, length, refl, subst, sym, ◌≤◌, ℕ}
use Rattle.std.proofs.lemmas.List.{length-map}
use Rattle.std.proofs.lemmas.Option.{slice_get_read}
use Rattle.std.proofs.lemmas.Result.{IfOk-weaker}
use Rattle.acl_people.proofs.ElsewhereLemmas.{kept_there, name_there, no_name_there, past_there}
use Rattle.acl_people.proofs.elsewhere.name_at.Goals as goal

pub returns-in-Some : goal.returns-in-Some
returns-in-Some c persons are =
    let place = c.args.place in
    let names = c.args.people.now.names.items in
    let found = rw c.deref.ensures.value at c.in-Some.ensures.lookup in
    let name = slice_get_read names (length names) place c.in-Some.name.now refl (omega (arith, found)) found.1 in
    let named = kept_there names (λ name. name.items) persons (λ one. one.name) are.names place c.in-Some.name.now name in
    IfOk-weaker c.from_slice.result _ _ (λ made said. said ∙ c.as_slice.ensures.value ∙ name_there persons place c.in-Some.name.now.items named) c.from_slice.ensures.items

pub returns-in-None : goal.returns-in-None
returns-in-None c persons are =
    let place = c.args.place in
    let names = c.args.people.now.names.items in
    let past = rw c.deref.ensures.value at c.in-None.ensures.lookup in
    let behind = subst (λ (count : ℕ). count ≤ place) (sym (length-map names (λ name. name.items))) (omega (arith, past)) in
    c.new.ensures.items ∙ no_name_there persons place (past_there (λ one. one.name) (λ one. one.name) persons place (subst (λ names. length names ≤ place) are.names behind))

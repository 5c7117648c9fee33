use Rattle.std.proofs.Common.{rules, ◌≡◌, ◌∙◌, ◌++◌, None, Option, Some, OnOk, ap, append-nil, option_map, subst, sym}
use Rattle.std.specs.Prelude.{List, ℕ, slice_get}
use Rattle.acl_nfs4.specs.Mask.{mask_bits}
use Rattle.acl_people.specs.Asked.{persons_in}
use Rattle.acl_people.specs.Person.{Person}
use Rattle.acl_listing_changes.specs.ImpactSteps.{view_one}
use Rattle.acl_listing_changes.specs.ImpactText.{line_at, person_text}
use Rattle.acl_listing_changes.proofs.impact.asked.push_person_at.Goals as goal

pub returns-in-Some : goal.returns-in-Some
returns-in-Some c =
    let persons = persons_in c.args.people.now in
    let line : Person → List ℕ = λ person. person_text person (mask_bits c.args.lost) (mask_bits c.args.gained) c.args.path.now in
    let some : c.one_at.result ≡ Some c.in-Some.one = search rules in
    let there : slice_get persons c.args.place ≡ Some (view_one c.in-Some.one) = sym c.one_at.ensures ∙ ap (option_map view_one) some in
    subst (λ (found : Option Person). OnOk c.push_person.result (c.push_person.new.out.items ≡ c.args.out.now.items ++ line_at line found)) (sym there) c.push_person.ensures

pub returns-in-None : goal.returns-in-None
returns-in-None c =
    let persons = persons_in c.args.people.now in
    let line : Person → List ℕ = λ person. person_text person (mask_bits c.args.lost) (mask_bits c.args.gained) c.args.path.now in
    let none : c.one_at.result ≡ None = search rules in
    let there : slice_get persons c.args.place ≡ None = sym c.one_at.ensures ∙ ap (option_map view_one) none in
    sym (ap (λ (found : Option Person). c.args.out.now.items ++ line_at line found) there ∙ append-nil c.args.out.now.items)

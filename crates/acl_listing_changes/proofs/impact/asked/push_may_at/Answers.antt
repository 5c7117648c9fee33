use Rattle.std.proofs.Common.{rules, ◌≡◌, ◌∙◌, ◌++◌, None, Option, Some, OnOk, ap, append-nil, option_map, subst, sym}
use Rattle.std.specs.Prelude.{slice_get}
use Rattle.acl_bridge.specs.Files.{view_acl}
use Rattle.acl_people.specs.Asked.{persons_in}
use Rattle.acl_people.specs.Person.{Person}
use Rattle.acl_listing_changes.specs.ImpactSteps.{view_one}
use Rattle.acl_listing_changes.specs.ImpactText.{line_at}
use Rattle.acl_listing_changes.specs.Impacting.{may_line}
use Rattle.acl_listing_changes.proofs.impact.asked.push_may_at.Goals as goal

pub returns-in-Some : goal.returns-in-Some
returns-in-Some c =
    let persons = persons_in c.args.people.now in
    let line = may_line c.args.gone c.args.path.now (view_acl c.args.file.now) in
    let some : c.one_at.result ≡ Some c.in-Some.one = search rules in
    let there : slice_get persons c.args.place ≡ Some (view_one c.in-Some.one) = sym c.one_at.ensures ∙ ap (option_map view_one) some in
    subst (λ (found : Option Person). OnOk c.push_may.result (c.push_may.new.out.items ≡ c.args.out.now.items ++ line_at line found)) (sym there) c.push_may.ensures

pub returns-in-None : goal.returns-in-None
returns-in-None c =
    let persons = persons_in c.args.people.now in
    let line = may_line c.args.gone c.args.path.now (view_acl c.args.file.now) in
    let none : c.one_at.result ≡ None = search rules in
    let there : slice_get persons c.args.place ≡ None = sym c.one_at.ensures ∙ ap (option_map view_one) none in
    sym (ap (λ (found : Option Person). c.args.out.now.items ++ line_at line found) there ∙ append-nil c.args.out.now.items)

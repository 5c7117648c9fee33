use Rattle.std.proofs.Common.{rules, ◌≡◌, ◌∙◌, [], None, Option, Some, IfOk, ap, append-nil, option_map, refl, subst, sym, false}
use Rattle.std.specs.Prelude.{slice_get}
use Rattle.acl_bridge.specs.Files.{view_acl}
use Rattle.acl_people.specs.Asked.{persons_in}
use Rattle.acl_people.specs.Person.{Person}
use Rattle.acl_listing_changes.specs.Impacting.{Reports}
use Rattle.acl_listing_changes.specs.ImpactSteps.{ReportsAt, view_one}
use Rattle.acl_listing_changes.proofs.impact.asked.push_changed_at.Goals as goal

pub returns-in-Some : goal.returns-in-Some
returns-in-Some c =
    let persons = persons_in c.args.people.now in
    let some : c.one_at.result ≡ Some c.in-Some.one = search rules in
    let there : slice_get persons c.args.place ≡ Some (view_one c.in-Some.one) = sym c.one_at.ensures ∙ ap (option_map view_one) some in
    subst (λ (found : Option Person). IfOk c.push_changed.result (λ some. Reports (ReportsAt some (view_acl c.args.before.now) (view_acl c.args.after.now) c.args.path.now found) c.args.out.now.items c.push_changed.new.out.items))
    (sym there) c.push_changed.ensures

pub returns-in-None : goal.returns-in-None
returns-in-None c =
    let persons = persons_in c.args.people.now in
    let none : c.one_at.result ≡ None = search rules in
    let there : slice_get persons c.args.place ≡ None = sym c.one_at.ensures ∙ ap (option_map view_one) none in
    record {
      text = [];
      is = subst (λ (found : Option Person). ReportsAt false (view_acl c.args.before.now) (view_acl c.args.after.now) c.args.path.now found []) (sym there) (refl, refl);
      out_is = sym (append-nil c.args.out.now.items);
    }

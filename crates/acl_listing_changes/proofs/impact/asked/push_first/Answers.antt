use Rattle.std.proofs.Common.{rules, ◌≡◌, ◌≤◌, Bool, true, false, arith, length, subst}
use Rattle.std.specs.Prelude.{slice_get}
use Rattle.acl_bridge.specs.Files.{view_acl}
use Rattle.acl_people.specs.Asked.{names_of_people, persons_in}
use Rattle.acl_listing_changes.specs.Impacting.{Reports}
use Rattle.acl_listing_changes.specs.ImpactSteps.{ReportsAt}
use Rattle.acl_listing_changes.proofs.ImpactLemmas.{first_all, first_found, first_more, first_none}
use Rattle.acl_listing_changes.proofs.impact.asked.push_first.Goals as goal

pub loop-place-init : goal.loop-place-init
loop-place-init c = first_none (view_acl c.args.before.now) (view_acl c.args.after.now) c.args.path.now (persons_in c.args.people.now) c.args.out.now.items

pub returns-then-branch : goal.returns-then-branch
returns-then-branch c =
    let persons = persons_in c.args.people.now in
    let some : c.in_ok-push_changed_at.field-0 ≡ true = search rules in
    let reported = subst (λ (some : Bool). Reports (ReportsAt some (view_acl c.args.before.now) (view_acl c.args.after.now) c.args.path.now (slice_get persons c.loop-place.place)) c.loop-place.out.items
    c.push_changed_at.new.out.items) some c.in_ok-push_changed_at.ensures in
    first_found (view_acl c.args.before.now) (view_acl c.args.after.now) c.args.path.now persons c.loop-place.place c.args.out.now.items c.loop-place.out.items c.push_changed_at.new.out.items
    c.loop-place.invariant reported.text reported.is reported.out_is

pub loop-place-preserved : goal.loop-place-preserved
loop-place-preserved c =
    let persons = persons_in c.args.people.now in
    let none : c.in_ok-push_changed_at.field-0 ≡ false = search rules in
    let reported = subst (λ (some : Bool). Reports (ReportsAt some (view_acl c.args.before.now) (view_acl c.args.after.now) c.args.path.now (slice_get persons c.loop-place.place)) c.loop-place.out.items
    c.push_changed_at.new.out.items) none c.in_ok-push_changed_at.ensures in
    first_more (view_acl c.args.before.now) (view_acl c.args.after.now) c.args.path.now persons c.loop-place.place c.args.out.now.items c.loop-place.out.items c.push_changed_at.new.out.items
    c.loop-place.invariant reported.text reported.is reported.out_is

pub returns : goal.returns
returns c =
    let people = c.args.people.now in
    let past : length people.requesters.items ≤ c.loop-place.place = search arith in
    first_all (view_acl c.args.before.now) (view_acl c.args.after.now) c.args.path.now (names_of_people people) people.requesters.items c.loop-place.place past c.args.out.now.items c.loop-place.out.items
    c.loop-place.invariant

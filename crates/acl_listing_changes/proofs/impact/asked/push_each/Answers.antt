use Rattle.std.proofs.Common.{◌≤◌, arith, length}
use Rattle.acl_bridge.specs.Files.{view_acl}
use Rattle.acl_people.specs.Asked.{names_of_people, persons_in}
use Rattle.acl_listing_changes.proofs.ImpactLemmas.{each_all, each_more, each_none}
use Rattle.acl_listing_changes.proofs.impact.asked.push_each.Goals as goal

pub loop-place-init : goal.loop-place-init
loop-place-init c = each_none (view_acl c.args.before.now) (view_acl c.args.after.now) c.args.path.now (persons_in c.args.people.now) c.args.out.now.items

pub loop-place-preserved : goal.loop-place-preserved
loop-place-preserved c =
    let reported = c.in_ok-push_changed_at.ensures in
    each_more (view_acl c.args.before.now) (view_acl c.args.after.now) c.args.path.now (persons_in c.args.people.now) c.loop-place.place c.args.out.now.items c.loop-place.out.items
    c.push_changed_at.new.out.items c.loop-place.invariant c.in_ok-push_changed_at.field-0 reported.text reported.is reported.out_is

pub returns : goal.returns
returns c =
    let people = c.args.people.now in
    let past : length people.requesters.items ≤ c.loop-place.place = search arith in
    each_all (view_acl c.args.before.now) (view_acl c.args.after.now) c.args.path.now (names_of_people people) people.requesters.items c.loop-place.place past c.args.out.now.items c.loop-place.out.items
    c.loop-place.invariant

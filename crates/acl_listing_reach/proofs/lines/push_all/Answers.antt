use Rattle.std.proofs.Common.{◌∙◌, ◌≤◌, ◌++◌, ap, append-nil, arith, length, sym}
use Rattle.acl_people.specs.Asked.{names_of_people, persons_in}
use Rattle.acl_listing_reach.proofs.LineLemmas.{all_end, all_more}
use Rattle.acl_listing_reach.proofs.lines.push_all.Goals as goal

pub loop-place-preserved : goal.loop-place-preserved
loop-place-preserved c =
    all_more c.args.old.now c.args.new.now c.args.path.now (persons_in c.args.people.now) c.loop-place.place c.args.out.now.items c.loop-place.out.items c.push_line_at.new.out.items
    c.loop-place.invariant c.in_ok-push_line_at.ensures

pub returns : goal.returns
returns c =
    let people = c.args.people.now in
    let past : length people.requesters.items ≤ c.loop-place.place = search arith in
    sym (c.loop-place.invariant
    ∙ ap (λ rest. c.loop-place.out.items ++ rest) (all_end c.args.old.now c.args.new.now c.args.path.now (names_of_people people) people.requesters.items c.loop-place.place past)
    ∙ append-nil c.loop-place.out.items)

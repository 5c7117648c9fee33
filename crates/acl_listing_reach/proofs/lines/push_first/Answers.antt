use Rattle.std.proofs.Common.{◌≡◌, ◌∙◌, ◌≤◌, ◌<◌, ◌++◌, [], ap, append-nil, arith, false, length, subst, sym, ℕ, List}
use Rattle.acl_cli.specs.Reporting.{is_empty}
use Rattle.acl_people.specs.Asked.{names_of_people, persons_in}
use Rattle.acl_listing_reach.specs.LineSteps.{line_there}
use Rattle.acl_listing_reach.proofs.LineLemmas.{first_end, first_found, first_more, no_line, some_line}
use Rattle.acl_listing_reach.proofs.lines.push_first.Goals as goal

pub returns-then-len-kept : goal.returns-then-len-kept
returns-then-len-kept c =
    let out = c.args.out.now.items in
    let persons = persons_in c.args.people.now in
    let was = c.loop-place.invariant in
    let line = line_there persons c.args.old.now c.args.new.now c.args.path.now c.loop-place.place in
    let is : c.push_line_at.new.out.items ≡ out ++ line = c.in_ok-push_line_at.ensures ∙ ap (λ out. out ++ line) was.same in
    let more : length out < length c.push_line_at.new.out.items = omega (arith, c.if-len-kept.true, c.len.ensures, was.kept) in
    let some : is_empty line ≡ false = some_line out line (subst (λ (now : List ℕ). length out < length now) is more) in
    is ∙ ap (λ line. out ++ line) (sym (was.rest ∙ first_found c.args.old.now c.args.new.now c.args.path.now persons c.loop-place.place some))

pub loop-place-preserved : goal.loop-place-preserved
loop-place-preserved c =
    let out = c.args.out.now.items in
    let persons = persons_in c.args.people.now in
    let was = c.loop-place.invariant in
    let line = line_there persons c.args.old.now c.args.new.now c.args.path.now c.loop-place.place in
    let is : c.push_line_at.new.out.items ≡ out ++ line = c.in_ok-push_line_at.ensures ∙ ap (λ out. out ++ line) was.same in
    let few : length c.push_line_at.new.out.items ≤ length out = omega (arith, c.if-len-kept.false, c.len.ensures, was.kept) in
    let none : line ≡ [] = no_line out line (subst (λ (now : List ℕ). length now ≤ length out) is few) in
    record {
      same = is ∙ ap (λ line. out ++ line) none ∙ append-nil out;
      kept = was.kept;
      rest = was.rest ∙ first_more c.args.old.now c.args.new.now c.args.path.now persons c.loop-place.place none;
    }

pub returns : goal.returns
returns c =
    let out = c.args.out.now.items in
    let people = c.args.people.now in
    let was = c.loop-place.invariant in
    let past : length people.requesters.items ≤ c.loop-place.place = search arith in
    let none = first_end c.args.old.now c.args.new.now c.args.path.now (names_of_people people) people.requesters.items c.loop-place.place past in
    was.same ∙ sym (append-nil out) ∙ ap (λ line. out ++ line) (sym (was.rest ∙ none))

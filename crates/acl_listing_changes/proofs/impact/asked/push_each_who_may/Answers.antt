use Rattle.std.proofs.Common.{◌≡◌, ◌∙◌, ◌+◌, ◌++◌, ◌≤◌, suc, ap, append_assoc, arith, length, sym, take}
use Rattle.std.specs.List.{flat_map}
use Rattle.std.specs.Prelude.{slice_get}
use Rattle.acl_bridge.specs.Files.{view_acl}
use Rattle.acl_people.specs.Asked.{names_of_people, persons_in}
use Rattle.acl_listing_changes.specs.ImpactText.{line_at}
use Rattle.acl_listing_changes.specs.Impacting.{may_line}
use Rattle.acl_listing_changes.proofs.ImpactLemmas.{lines_all, lines_more}
use Rattle.acl_listing_changes.proofs.impact.asked.push_each_who_may.Goals as goal

pub loop-place-preserved : goal.loop-place-preserved
loop-place-preserved c =
    let persons = persons_in c.args.people.now in
    let line = may_line c.args.gone c.args.path.now (view_acl c.args.file.now) in
    let at = c.loop-place.place in
    let out = c.args.out.now.items in
    let one : at + 1 ≡ suc at = omega arith in
    c.in_ok-push_may_at.ensures
    ∙ ap (λ text. text ++ line_at line (slice_get persons at)) c.loop-place.invariant
    ∙ append_assoc out (flat_map line (take at persons)) (line_at line (slice_get persons at))
    ∙ ap (λ lines. out ++ lines) (sym (lines_more line persons at) ∙ ap (λ n. flat_map line (take n persons)) (sym one))

pub returns : goal.returns
returns c =
    let people = c.args.people.now in
    let past : length people.requesters.items ≤ c.loop-place.place = search arith in
    c.loop-place.invariant
    ∙ ap (λ lines. c.args.out.now.items ++ lines)
    (lines_all (may_line c.args.gone c.args.path.now (view_acl c.args.file.now)) (names_of_people people) people.requesters.items c.loop-place.place past)

use Rattle.std.proofs.Common.{◌≡◌, ◌∙◌, ◌==◌, ◌++◌, false, ap, ap₂, sym, ℕ, List}
use Rattle.std.specs.Prelude.{slice_get}
use Rattle.std.proofs.lemmas.Result.{on_ok_weaker}
use Rattle.acl_bridge.specs.Comparison.{mask_for}
use Rattle.acl_names.specs.Bits.{without}
use Rattle.acl_nfs4.specs.Mask.{mask_bits}
use Rattle.acl_people.specs.Asked.{persons_in}
use Rattle.acl_people.specs.Person.{Person}
use Rattle.acl_listing_changes.specs.ImpactText.{line_at, person_text}
use Rattle.acl_listing_reach.specs.ReachText.{number_at}
use Rattle.acl_listing_reach.proofs.LineLemmas.{line_other, other_number}
use Rattle.acl_listing_reach.proofs.lines.push_line_at.Goals as goal

pub returns : goal.returns
returns c =
    let found = slice_get (persons_in c.args.people.now) c.args.place in
    let m = number_at c.args.old.now c.args.place in
    let n = number_at c.args.new.now c.args.place in
    let path = c.args.path.now in
    let before = c.number_at-before.ensures in
    let after = c.number_at-after.ensures in
    let differ : (m == n) ≡ false = other_number m n (λ same. c.if-before-after.false (before ∙ same ∙ sym after)) in
    let lost : mask_bits c.lacking-lost.result ≡ mask_for (without m n) = c.lacking-lost.ensures ∙ ap₂ (λ (one other : ℕ). mask_for (without one other)) before after in
    let gained : mask_bits c.lacking-gained.result ≡ mask_for (without n m) = c.lacking-gained.ensures ∙ ap₂ (λ (one other : ℕ). mask_for (without one other)) after before in
    let reported : ℕ → ℕ → List ℕ = λ lost gained. c.args.out.now.items ++ line_at (λ (person : Person). person_text person lost gained path) found in
    on_ok_weaker c.push_person_at.result
    (λ is. is ∙ ap₂ reported lost gained ∙ ap (λ line. c.args.out.now.items ++ line) (line_other c.args.old.now c.args.new.now path c.args.place found differ)) c.push_person_at.ensures

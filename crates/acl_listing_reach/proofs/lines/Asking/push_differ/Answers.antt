use Rattle.std.proofs.Common.{rules, ◌≡◌, ◌∙◌, ◌++◌, List, ℕ, ap, append-nil, sym}
use Rattle.acl_listing_reach.specs.ReachText.{differ_text}
use Rattle.acl_listing_reach.specs.Asking.{asking_by}
use Rattle.acl_listing_reach.proofs.LineLemmas.{unchanged_text}
use Rattle.acl_listing_reach.proofs.lines.Asking.push_differ.Goals as goal

pub returns-then-eq : goal.returns-then-eq
returns-then-eq c =
    let out = c.args.out.now.items in
    let asking = asking_by c.args.self.now in
    let same : c.args.old.now ≡ c.args.new.now = search rules in
    sym (ap (λ (new : List ℕ). out ++ differ_text asking c.args.old.now new c.args.path.now) (sym same)
    ∙ ap (λ text. out ++ text) (unchanged_text c.args.old.now c.args.path.now asking) ∙ append-nil out)

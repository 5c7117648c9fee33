use Rattle.std.proofs.Common.{◌∙◌, ◌++◌, ℕ, List, ap, append_assoc, refl}
use Rattle.acl_listings.specs.Block.{FileValue}
use Rattle.acl_listings.specs.Views.{view_file}
use Rattle.acl_listing_lint.specs.Pending.{reported_at, reported_before}
use Rattle.acl_listing_lint.proofs.block.push_file.Goals as goal

pub returns-clause-found : goal.returns-clause-found
returns-clause-found c =
    let file : FileValue = view_file c.args.file in
    let out : List ℕ = c.args.out.now.items in
    let found = c.in_ok-push_found_by.ensures.found in
    let before : List ℕ = reported_before c.args.name.now c.args.seen.now.pending file.path in
    let here : List ℕ = reported_at c.args.name.now c.args.line file in
    record {
      text = before ++ found.text ++ here;
      is = (found.text, found.is, refl);
      out_is =
          c.in_ok-see.ensures.reported
          ∙ ap (λ (out : List ℕ). out ++ here) (found.out_is ∙ ap (λ (out : List ℕ). out ++ found.text) c.in_ok-push_shown.ensures ∙ append_assoc out before found.text)
          ∙ append_assoc out (before ++ found.text) here;
    }

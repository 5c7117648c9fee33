use Rattle.std.proofs.Common.{◌≡◌, ◌∙◌, ◌++◌, ℕ, List, ap, append_assoc, codes, decimal}
use Rattle.std.proofs.lemmas.Result.{IfOk-weaker}
use Rattle.acl_nfs4.specs.Mask.{mask_bits}
use Rattle.acl_queries.specs.Differences.{bits_text, gids_text}
use Rattle.acl_listing_changes.proofs.impact_lines.push_somebody.Goals as goal

regroup : (out differ name uid gids blank lost gained path end : List ℕ)
    → ((out ++ (differ ++ name ++ blank ++ uid ++ blank)) ++ gids) ++ (blank ++ lost ++ blank ++ gained ++ blank ++ path ++ end)
    ≡ out ++ (differ ++ name ++ blank ++ uid ++ blank ++ gids ++ blank ++ lost ++ blank ++ gained ++ blank ++ path ++ end)
regroup out differ name uid gids blank lost gained path end = simp append_assoc

pub returns : goal.returns
returns c =
    let out : List ℕ = c.args.out.now.items in
    let gids : List ℕ = gids_text c.args.asker.gid c.args.asker.other_gid in
    let lost : List ℕ = bits_text (mask_bits c.args.lost) in
    let gained : List ℕ = bits_text (mask_bits c.args.gained) in
    let last : List ℕ = codes " " ++ lost ++ codes " " ++ gained ++ codes " " ++ c.args.path.now ++ codes "\n" in
    IfOk-weaker c.push_what.result _ _
    (λ _ is. is ∙ ap (λ bytes. bytes ++ last) (c.in_ok-push_gids.ensures ∙ ap (λ bytes. bytes ++ gids) c.in_ok-push_who.ensures)
    ∙ regroup out (codes "differ ") (codes "-") (decimal c.args.asker.uid) gids (codes " ") lost gained c.args.path.now (codes "\n"))
    c.push_what.ensures

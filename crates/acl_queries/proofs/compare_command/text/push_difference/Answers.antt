use Rattle.std.proofs.Common.{◌≡◌, ◌∙◌, ap, ap₂, ℕ, List, ◌++◌, append_assoc, codes, decimal}
use Rattle.acl_nfs4.specs.Mask.{mask_bits}
use Rattle.acl_queries.specs.Differences.{bits_text, gids_text}
use Rattle.acl_queries.proofs.compare_command.text.push_difference.Goals as goal

regroup : (out differ uid gids lost lost_bits gained gained_bits : List ℕ)
    → ((((((((out ++ differ) ++ uid) ++ codes " ") ++ gids) ++ lost) ++ lost_bits) ++ gained) ++ gained_bits) ++ codes "\n"
    ≡ out ++ (differ ++ uid ++ codes " " ++ gids ++ lost ++ lost_bits ++ gained ++ gained_bits ++ codes "\n")
regroup out differ uid gids lost lost_bits gained gained_bits = simp append_assoc

pub returns : goal.returns
returns c =
    let difference = c.args.difference.now in
    let out : List ℕ = c.args.out.now.items in
    let uid : List ℕ = decimal difference.asker.uid in
    let gids : List ℕ = gids_text difference.asker.gid difference.asker.other_gid in
    let lost : List ℕ = bits_text (mask_bits difference.lost) in
    let gained : List ℕ = bits_text (mask_bits difference.gained) in
    c.in_ok-push-2.ensures.items
    ∙ ap (λ (xs : List ℕ). xs ++ codes "\n") (c.in_ok-push_bits-2.ensures
    ∙ ap (λ (xs : List ℕ). xs ++ gained) (c.in_ok-extend_from_slice-3.ensures.items
    ∙ ap₂ (λ (xs ys : List ℕ). xs ++ ys) (c.in_ok-push_bits.ensures
    ∙ ap (λ (xs : List ℕ). xs ++ lost) (c.in_ok-extend_from_slice-2.ensures.items
    ∙ ap₂ (λ (xs ys : List ℕ). xs ++ ys) (c.in_ok-push_gids.ensures
    ∙ ap (λ (xs : List ℕ). xs ++ gids) (c.in_ok-push.ensures.items
    ∙ ap (λ (xs : List ℕ). xs ++ codes " ") (c.in_ok-push_decimal.ensures.text
    ∙ ap₂ (λ (xs : List ℕ) (n : ℕ). xs ++ decimal n) (c.in_ok-extend_from_slice.ensures.items
    ∙ ap (λ (xs : List ℕ). out ++ xs) c.as_bytes.ensures.value) c.value.ensures.value)))
    c.as_bytes-2.ensures.value))
    c.as_bytes-3.ensures.value))
    ∙ regroup out (codes "differ\nrequester ") uid gids (codes "\nlost ") lost (codes "\ngained ") gained

use Rattle.std.proofs.Common.{ℕ, ◌<◌, ◌∙◌, nat_eq, length, sym, ap, option_map, rules, nat_cmp}
use Rattle.std.proofs.lemmas.Cmp.{nat_cmp_total}
use Rattle.std.proofs.lemmas.List.Sorted.{answers_always}
use Rattle.std.proofs.lemmas.Option.{slice_get-get_or}
use Rattle.acl_names.proofs.AscendingLemmas.{find-absent, find-searched}
use Rattle.acl_names.proofs.Keys.{same_id}
use Rattle.acl_names.proofs.directory.named.place_in.Goals as goal

pub returns-in-Ok : goal.returns-in-Ok
returns-in-Ok c =
    let index = c.args.index.now in
    let inside : c.in-Ok.at < length index = search (rules, c.in-Ok.ensures.bound) in
    let here = c.in-Ok.ensures.position (λ entry. entry.0) (answers_always _ _ _ (λ f a r q called. search rules)) in
    ap (option_map (λ (entry : ℕ × ℕ). entry.1))
    (sym (find-searched nat_cmp nat_cmp_total (λ (entry : ℕ × ℕ). entry.0) nat_eq same_id index c.args.id c.requires c.in-Ok.at inside here
    ∙ slice_get-get_or index c.in-Ok.at (0, 0) inside))

pub returns-in-Err : goal.returns-in-Err
returns-in-Err c =
    let absent = c.in-Err.ensures.position (λ entry. entry.0) (answers_always _ _ _ (λ f a r q called. search rules)) in
    ap (option_map (λ (entry : ℕ × ℕ). entry.1))
    (sym (find-absent nat_cmp nat_cmp_total (λ (entry : ℕ × ℕ). entry.0) nat_eq same_id c.args.index.now c.args.id c.requires c.in-Err.field-0 absent))

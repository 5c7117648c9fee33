use Rattle.std.proofs.Common.{◌∙◌, ◌<◌, length, sym, ap, Some, rules, nat_cmp, bytes_eq}
use Rattle.std.specs.Cmp.Lexicographic.{slice_cmp}
use Rattle.std.proofs.lemmas.Cmp.{nat_list_cmp_total}
use Rattle.std.proofs.lemmas.Fn.{always_returns_same}
use Rattle.std.proofs.lemmas.Option.{slice_get-get_or}
use Rattle.acl_names.proofs.AscendingLemmas.{find-searched, find-absent}
use Rattle.acl_names.proofs.Keys.{same_name}
use Rattle.acl_names.proofs.directory.named.find_by_bytes.Goals as goal

pub returns-in-Ok : goal.returns-in-Ok
returns-in-Ok g c =
    let name_of = g.T.Named.name_of in
    let members = c.args.members.now in
    let here = c.in-Ok.ensures.position (λ member. slice_cmp nat_cmp (name_of member) c.args.name.now) (always_returns_same _ _ _ (λ a r q called. search rules)) in
    let inside : c.in-Ok.place < length members = search (rules, c.in-Ok.ensures.bound) in
    ap Some c.index-members-place.is
    ∙ sym (find-searched (slice_cmp nat_cmp) nat_list_cmp_total name_of bytes_eq same_name members c.args.name.now c.requires c.in-Ok.place inside here
    ∙ slice_get-get_or members c.in-Ok.place c.index-members-place.result inside)

pub returns-in-Err : goal.returns-in-Err
returns-in-Err g c =
    let name_of = g.T.Named.name_of in
    let absent = c.in-Err.ensures.position (λ member. slice_cmp nat_cmp (name_of member) c.args.name.now) (always_returns_same _ _ _ (λ a r q called. search rules)) in
    sym (find-absent (slice_cmp nat_cmp) nat_list_cmp_total name_of bytes_eq same_name c.args.members.now c.args.name.now c.requires c.in-Err.field-0 absent)

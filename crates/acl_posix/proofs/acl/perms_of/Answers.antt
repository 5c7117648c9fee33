use Rattle.std.proofs.Common.{◌∙◌, ◌<◌, length, sym, ap, Some, Ok, Err, option_map, rules}
use Rattle.std.proofs.lemmas.List.Sorted.{answers_always}
use Rattle.std.proofs.lemmas.Option.{slice_get-get_or}
use Rattle.acl_names.proofs.AscendingLemmas.{find-searched, find-absent}
use Rattle.acl_posix.specs.Canonical.{tag_cmp, tag_of}
use Rattle.acl_posix.specs.Entry.{EntryValue, same_tag}
use Rattle.acl_posix.proofs.CanonicalLemmas.{same_tag-tag_cmp, searched_by_tag, tag_cmp_total}
use Rattle.acl_posix.proofs.acl.perms_of.Goals as goal

pub returns-in-Ok : goal.returns-in-Ok
returns-in-Ok c =
    let entries = c.args.entries.now in
    let ascends = c.requires in
    let derived = c.in-Ok.ensures.position (λ entry. entry.tag) (answers_always _ _ _ (λ f a r g called. search rules)) in
    let here = searched_by_tag entries c.args.tag (Ok c.in-Ok.place) derived in
    let inside : c.in-Ok.place < length entries = search (rules, c.in-Ok.ensures.bound) in
    let found = find-searched tag_cmp tag_cmp_total tag_of same_tag same_tag-tag_cmp entries c.args.tag ascends c.in-Ok.place inside here
    ∙ slice_get-get_or entries c.in-Ok.place c.index-entries-place.result inside ∙ ap Some (sym c.index-entries-place.is) in
    ap (λ (entry : EntryValue). Some entry.perms) c.found.view_is ∙ sym (ap (option_map (λ (entry : EntryValue). entry.perms)) found)

pub returns-in-Err : goal.returns-in-Err
returns-in-Err c =
    let entries = c.args.entries.now in
    let ascends = c.requires in
    let derived = c.in-Err.ensures.position (λ entry. entry.tag) (answers_always _ _ _ (λ f a r g called. search rules)) in
    let absent = searched_by_tag entries c.args.tag (Err c.in-Err.field-0) derived in
    let none = find-absent tag_cmp tag_cmp_total tag_of same_tag same_tag-tag_cmp entries c.args.tag ascends c.in-Err.field-0 absent in
    sym (ap (option_map (λ (entry : EntryValue). entry.perms)) none)

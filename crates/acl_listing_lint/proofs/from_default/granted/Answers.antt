use Rattle.std.proofs.Common.{◌∙◌, ℕ, List, Option, ap, find, option_map}
use Rattle.acl_posix.specs.Access.{effective_perms, perms_under}
use Rattle.acl_posix.specs.Entry.{EntryValue, same_tag}
use Rattle.acl_listing_lint.proofs.from_default.granted.Goals as goal

pub returns : goal.returns
returns c =
    let tag = c.args.tag.now in
    c.granted_under.ensures
    ∙ ap (λ (mask : Option ℕ). option_map (perms_under mask) (find (λ (entry : EntryValue). same_tag entry.tag tag) c.entries.result.now)) c.mask-mask.ensures.value
    ∙ ap (λ (entries : List EntryValue). option_map (effective_perms c.args.acl.now) (find (λ (entry : EntryValue). same_tag entry.tag tag) entries)) c.entries.ensures.value

use Rattle.std.proofs.Common.{◌∙◌, ◌<◌, ap, length}
use Rattle.acl_names.specs.Bits.{has_all}
use Rattle.acl_posix.specs.Entry.{EntryValue}
use Rattle.acl_posix.specs.Perms.{bits_of}
use Rattle.acl_posix.proofs.EndLemmas.{owner_has}
use Rattle.acl_posix.proofs.acl.access.first_has.Goals as goal

pub returns-in-len1-up : goal.returns-in-len1-up
returns-in-len1-up c =
    let request = bits_of c.args.request in
    let some : 0 < length c.args.entries.now = c.in-len1-up.len_at_least in
    c.contains.ensures tt ∙ ap (λ (entry : EntryValue). has_all entry.perms request) c.first.view_is
    ∙ owner_has c.args.entries.now c.requires.valid c.requires.canonical request c.first-item.result some (c.first-item.is)

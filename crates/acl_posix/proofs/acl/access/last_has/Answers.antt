use Rattle.std.proofs.Common.{◌∙◌, ◌-◌, ◌≤◌, ap, arith, length}
use Rattle.acl_names.specs.Bits.{has_all}
use Rattle.acl_posix.specs.Entry.{EntryValue}
use Rattle.acl_posix.specs.Perms.{bits_of}
use Rattle.acl_posix.proofs.EndLemmas.{others_have}
use Rattle.acl_posix.proofs.acl.access.last_has.Goals as goal

pub returns-in-len1-up : goal.returns-in-len1-up
returns-in-len1-up c =
    let request = bits_of c.args.request in
    let some : 1 ≤ length c.args.entries.now = c.in-len1-up.len_at_least in
    c.contains.ensures tt ∙ ap (λ (entry : EntryValue). has_all entry.perms request) c.last.view_is
    ∙ others_have c.args.entries.now c.requires.valid c.requires.canonical request c.last-item.result (length c.args.entries.now - 1) (omega arith) (c.last-item.is)

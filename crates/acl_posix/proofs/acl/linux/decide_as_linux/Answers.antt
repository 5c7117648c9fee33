use Rattle.std.proofs.Common.{◌∙◌, sym}
use Rattle.acl_posix.specs.Perms.{bits_of}
use Rattle.acl_posix.proofs.LinuxLemmas.{linux-other, linux-owner}
use Rattle.acl_posix.proofs.acl.linux.decide_as_linux.Goals as goal

pub returns-then-eq : goal.returns-then-eq
returns-then-eq g c =
    let is_owner = rw c.uid.ensures at (sym c.if-eq.ensures) in
    let empty = sym c.is_mask_empty.ensures ∙ c.if-not-is_mask_empty.false in
    c.first_has.ensures
    ∙ sym (linux-owner c.args.entries.now c.requires.valid empty c.args.owner c.args.group (g.S.Subject.identity c.args.subject.now) (bits_of c.args.request) is_owner)

pub returns : goal.returns
returns g c =
    let not_owner = rw c.uid.ensures at (sym c.if-eq.ensures) in
    let outside = sym c.is_in_group.ensures ∙ c.if-is_in_group.false in
    let empty = sym c.is_mask_empty.ensures ∙ c.if-not-is_mask_empty.false in
    c.last_has.ensures
    ∙ sym (linux-other c.args.entries.now c.requires.valid empty c.args.owner c.args.group (g.S.Subject.identity c.args.subject.now) (bits_of c.args.request) not_owner outside)

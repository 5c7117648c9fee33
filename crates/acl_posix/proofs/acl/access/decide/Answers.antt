use Rattle.std.proofs.Common.{◌∙◌, sym}
use Rattle.acl_posix.specs.Perms.{bits_of}
use Rattle.acl_posix.proofs.AccessLemmas.{answered, unanswered, has_tag-valid, grants-owner, grants-user, grants-group, grants-other}
use Rattle.acl_posix.proofs.acl.access.decide.Goals as goal

pub returns-then-eq : goal.returns-then-eq
returns-then-eq g c =
    let is_owner = rw c.uid-uid.ensures at (sym c.if-eq.ensures) in
    c.first_has.ensures
    ∙ sym (grants-owner c.args.entries.now c.args.owner c.args.group (g.S.Subject.identity c.args.subject.now) (bits_of c.args.request) is_owner (has_tag-valid c.args.entries.now c.requires.valid))

pub returns-in-Some : goal.returns-in-Some
returns-in-Some g c =
    let not_owner = rw c.uid-uid.ensures at (sym c.if-eq.ensures) in
    let answer = answered _ _ c.in-Some.answer (rw c.uid-uid.ensures at c.in-Some.ensures) in
    answer.1 ∙ sym (grants-user c.args.entries.now c.args.owner c.args.group (g.S.Subject.identity c.args.subject.now) (bits_of c.args.request) not_owner answer.0)

pub returns-in-Some-group_answer : goal.returns-in-Some-group_answer
returns-in-Some-group_answer g c =
    let not_owner = rw c.uid-uid.ensures at (sym c.if-eq.ensures) in
    let no_user = unanswered _ _ (rw c.uid-uid.ensures at c.in-None.ensures) in
    let answer = answered _ _ c.in-Some-group_answer.answer c.in-Some-group_answer.ensures in
    answer.1 ∙ sym (grants-group c.args.entries.now c.args.owner c.args.group (g.S.Subject.identity c.args.subject.now) (bits_of c.args.request) not_owner no_user answer.0)

pub returns-in-None-group_answer : goal.returns-in-None-group_answer
returns-in-None-group_answer g c =
    let not_owner = rw c.uid-uid.ensures at (sym c.if-eq.ensures) in
    let no_user = unanswered _ _ (rw c.uid-uid.ensures at c.in-None.ensures) in
    let no_group = unanswered _ _ c.in-None-group_answer.ensures in
    c.last_has.ensures
    ∙ sym (grants-other c.args.entries.now c.args.owner c.args.group (g.S.Subject.identity c.args.subject.now) (bits_of c.args.request) not_owner no_user no_group)

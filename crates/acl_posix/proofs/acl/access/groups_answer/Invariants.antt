use Rattle.std.proofs.Common.{◌≡◌, take, false}
use Rattle.acl_posix.specs.CheckSteps.{groups_answer, group_has}
use Rattle.acl_posix.specs.Perms.{bits_of}
use Rattle.acl_posix.proofs.acl.access.groups_answer.Given as goal

-- what the entries so far answer, of which none has all of the request
abbrev pub invariant-loop-entry : goal.invariant-loop-entry
invariant-loop-entry g l = record {
  answer : l.answer ≡ groups_answer (take l.entry-index l.entries) l.group (g.S.Subject.identity l.subject) (bits_of l.request);
  none : group_has (g.S.Subject.identity l.subject) l.group (take l.entry-index l.entries) (bits_of l.request) ≡ false;
}

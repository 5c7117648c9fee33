use Rattle.acl_posix.specs.Perms.{bits_of}
use Rattle.std.proofs.Common.{◌∙◌, ap, Some}
use Rattle.acl_posix.proofs.AccessLemmas.{tag_answer-found, tag_answer-none}
use Rattle.acl_posix.proofs.ValidityLemmas.{IsValid-count_of}
use Rattle.acl_posix.proofs.acl.access.tag_answer.Goals as goal

pub returns-in-Some : goal.returns-in-Some
returns-in-Some c =
    let once = IsValid-count_of c.args.entries.now c.requires.valid c.args.tag in
    ap Some (c.contains.ensures tt) ∙ tag_answer-found c.args.tag c.args.entries.now (bits_of c.args.request) once (bits_of c.in-Some.perms) c.in-Some.ensures

pub returns-in-None : goal.returns-in-None
returns-in-None c = tag_answer-none c.args.tag c.args.entries.now (bits_of c.args.request) c.in-None.ensures

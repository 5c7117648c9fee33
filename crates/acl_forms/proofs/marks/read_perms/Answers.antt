use Rattle.std.proofs.Common.{◌∙◌, ap, Some}
use Rattle.acl_forms.proofs.marks.read_perms.Goals as goal

pub returns-in-Some : goal.returns-in-Some
returns-in-Some c = ap Some (c.from_bits_retain.ensures tt) ∙ c.in-Some.ensures

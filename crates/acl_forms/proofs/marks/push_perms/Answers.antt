use Rattle.std.proofs.Common.{ap, sym}
use Rattle.acl_names.proofs.Pushed.{PushesInRoom-as}
use Rattle.acl_forms.specs.Marks.{perm_table}
use Rattle.acl_forms.specs.PrintedForm.{marks_text}
use Rattle.acl_forms.proofs.marks.push_perms.Goals as goal

pub returns : goal.returns
returns c = PushesInRoom-as (ap (marks_text c.args.places perm_table) (sym (c.bits.ensures tt))) c.push_marks.ensures

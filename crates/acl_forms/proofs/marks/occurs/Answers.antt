use Rattle.std.proofs.Common.{sym, ◌∙◌}
use Rattle.acl_forms.proofs.MarkLemmas.{occurs_is}
use Rattle.acl_forms.proofs.marks.occurs.Goals as goal

pub returns : goal.returns
returns c = c.stands_in.ensures ∙ sym (occurs_is c.args.letter c.args.text.now)

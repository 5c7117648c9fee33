use Rattle.std.proofs.Common.{◌==◌, sym}
use Rattle.std.proofs.lemmas.List.{take_rest}
use Rattle.acl_names.proofs.Cutting.{first_part, only_part}
use Rattle.acl_names.proofs.text.parts.Parts.next.Goals as goal

pub returns-in-Some-clause-part : goal.returns-in-Some-clause-part
returns-in-Some-clause-part c = rw (← c.self.view_is, c.in_ok-text.was, take_rest) (first_part (λ x. x == c.self.inside.separator) c.in_ok-text.text.now c.in-Some.at (sym c.in-Some.ensures))

pub returns-in-None-clause-part : goal.returns-in-None-clause-part
returns-in-None-clause-part c = rw (← c.self.view_is, c.in_ok-text.was) (only_part (λ x. x == c.self.inside.separator) c.in_ok-text.text.now (sym c.in-None.ensures))

use Rattle.std.proofs.Common.{arith, append_assoc, refl}
use Rattle.itoa.proofs.Decimal.{decimal_pair}
use Rattle.acl_names.proofs.text.digits.put_first_four.Goals as goal

pub returns-else-number-lt100-clause-text : goal.returns-else-number-lt100-clause-text
returns-else-number-lt100-clause-text c =
    rw (c.put_two.ensures.text, c.put_first_two-else-number-lt100.ensures.text, append_assoc, decimal_pair c.args.number c.if-number-lt100.false (omega arith)) refl

use Rattle.std.proofs.Common.{arith, append_assoc, refl}
use Rattle.itoa.proofs.Decimal.{decimal_four}
use Rattle.acl_names.proofs.DigitLemmas.{decimal_long}
use Rattle.acl_names.proofs.text.digits.put_decimal.Goals as goal

pub returns-then-number-lt100000000-clause-text : goal.returns-then-number-lt100000000-clause-text
returns-then-number-lt100000000-clause-text c =
    rw (
      c.put_four.ensures.text,
      c.put_first_four-then-number-lt100000000.ensures.text,
      append_assoc,
      decimal_four c.args.number c.if-number-lt10000.false (omega arith),
    ) refl

pub returns-else-number-lt100000000-clause-text : goal.returns-else-number-lt100000000-clause-text
returns-else-number-lt100000000-clause-text c =
    rw (
      c.put_four-else-number-lt100000000-2.ensures.text,
      c.put_four-else-number-lt100000000.ensures.text,
      c.put_first_two.ensures.text,
      append_assoc,
      append_assoc,
      decimal_long c.args.number c.if-number-lt100000000.false (omega arith),
    ) refl

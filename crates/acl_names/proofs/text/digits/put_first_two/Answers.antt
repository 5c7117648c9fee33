use Rattle.std.proofs.Common.{◌∙◌, sym, ap, ◌++◌}
use Rattle.std.proofs.lemmas.Fmt.{decimal_digit}
use Rattle.itoa.proofs.Decimal.{decimal_two}
use Rattle.acl_names.proofs.text.digits.put_first_two.Goals as goal

pub returns-then-number-lt10-clause-text : goal.returns-then-number-lt10-clause-text
returns-then-number-lt10-clause-text c =
    c.push_reserved.ensures.items ∙ ap (λ digits. c.args.out.now.items ++ digits) (sym (decimal_digit c.args.number c.if-number-lt10.true))

pub returns-else-number-lt10-clause-text : goal.returns-else-number-lt10-clause-text
returns-else-number-lt10-clause-text c =
    c.put_two.ensures.text ∙ ap (λ digits. c.args.out.now.items ++ digits) (sym (decimal_two c.args.number c.if-number-lt10.false c.requires.small))

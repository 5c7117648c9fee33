use Rattle.std.proofs.Common.{ap, sym, ◌∙◌, arith, ◌≡◌, length, Some, eqb-true}
use Rattle.acl_broker.specs.declared.end.End.TheVariants.{Open}
use Rattle.acl_broker.proofs.EndLists.{popped_both}
use Rattle.tests_broker.proofs.threads.two_open_ends.Goals as goal

pub returns : goal.returns
returns c =
    let rest = c.pop-2.new.self.items in
    let none : length rest ≡ 0 = omega (arith, eqb-true _ 0 (sym c.is_empty.ensures ∙ c.if-not-is_empty.false), c.pop-2.new.self.ok.0) in
    popped_both c.args.ends.items c.pop.new.self.items rest c.pop.result c.pop-2.result (Open c.in-Some-Open-pop.first) (Open c.in-Some-Open.second)
    c.pop.ensures.items (c.in-Some-Open.is ∙ ap (λ end. Some end) c.in-Some-Open.field-0-is) c.pop-2.ensures.items (c.in-Some-Open-pop.is ∙ ap (λ end. Some end) c.in-Some-Open-pop.field-0-is) none

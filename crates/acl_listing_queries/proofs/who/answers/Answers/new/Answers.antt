use Rattle.std.proofs.Common.{◌∙◌, arith, IfSome, subst, sym}
use Rattle.acl_listing_queries.specs.WhoSteps.{IsKept}
use Rattle.acl_listing_queries.proofs.who.answers.Answers.new.Goals as goal

pub returns-clause-right : goal.returns-clause-right
returns-clause-right c = record {
  places = c.loop.invariant.count ∙ omega (arith, c.loop-test.false, c.loop.auto.counter-end);
  each = λ place. subst (λ found. IfSome found (IsKept c.args.users)) (sym (c.loop.invariant.none place)) tt;
}

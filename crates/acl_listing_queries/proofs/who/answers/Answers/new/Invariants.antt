use Rattle.std.proofs.Common.{◌≡◌, ℕ, None, length}
use Rattle.acl_listing_queries.specs.WhoSteps.{kept_at}
use Rattle.acl_listing_queries.proofs.who.answers.Answers.new.Given as goal

-- so many places, and nothing is kept
abbrev pub invariant-loop : goal.invariant-loop
invariant-loop l = record {
  count : length l.kept.items ≡ l.counter;
  none : (place : ℕ) → kept_at l.kept.items place ≡ None;
}

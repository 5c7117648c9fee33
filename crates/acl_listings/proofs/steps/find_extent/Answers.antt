use Rattle.std.proofs.Common.{inl, inr, ap, arith, length, subst}
use Rattle.acl_listings.specs.Extent.{IsExtent}
use Rattle.acl_listings.proofs.StepsLemmas.{whole_extent}
use Rattle.acl_listings.proofs.steps.find_extent.Goals as goal
use Rattle.acl_listings.proofs.steps.find_extent.Goals.{then-is_closed-via-then-is_closed}
use Rattle.acl_listings.proofs.steps.find_extent.Goals.{then-is_closed-via-else-is_closed+then-extent-gt-MAX_BLOCK}
use Rattle.acl_listings.proofs.steps.find_extent.Goals.{then-is_closed-via-else-is_closed+else-extent-gt-MAX_BLOCK+then-has_ended}

pub returns-then-is_closed-clause-whole : goal.returns-then-is_closed-clause-whole
returns-then-is_closed-clause-whole g c =
    let extent = c.extent_of-extent.result in
    let is : IsExtent c.loop.source.shown extent.len extent.newlines =
    subst (λ shown. IsExtent shown extent.len extent.newlines) c.shown-shown.ensures.value c.extent_of-extent.ensures in
    λ short. elim c.then-is_closed.branch [
      | then-is_closed-via-then-is_closed w ↦ whole_extent _ _ _ _ is (inl (omega (arith, w.if-is_closed.true, ap length c.shown-shown.ensures.value)))
      | then-is_closed-via-else-is_closed+then-extent-gt-MAX_BLOCK w ↦ absurd (omega arith)
      | then-is_closed-via-else-is_closed+else-extent-gt-MAX_BLOCK+then-has_ended w ↦ whole_extent _ _ _ _ is (inr (w.has_ended.ensures.end w.if-has_ended.true))
    ]

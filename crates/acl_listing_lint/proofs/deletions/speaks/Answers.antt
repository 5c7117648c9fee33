use Rattle.std.proofs.Common.{◌∙◌, ap, sym}
use Rattle.acl_names.specs.Bits.{has_all}
use Rattle.acl_nfs4.specs.Mask.{mask_bits}
use Rattle.acl_listing_lint.specs.Deletions.{is_everyone}
use Rattle.acl_access.proofs.StandingLemmas.{speaks_if, silent_if}
use Rattle.acl_listing_lint.proofs.deletions.speaks.Goals as goal

pub returns-then-concerns : goal.returns-then-concerns
returns-then-concerns c = λ place is.
    speaks_if is_everyone place c.args.ace.now (mask_bits c.args.bit) c.contains.result is
    (sym c.concerns.ensures ∙ c.if-concerns.true)
    (c.contains.ensures tt ∙ ap (λ mask. has_all mask (mask_bits c.args.bit)) c.mask.ensures.value)

pub returns-else-concerns : goal.returns-else-concerns
returns-else-concerns c = λ place is.
    c.if-concerns.false
    ∙ sym (silent_if is_everyone place c.args.ace.now (sym c.concerns.ensures ∙ c.if-concerns.false))

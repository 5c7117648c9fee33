use Rattle.std.proofs.Common.{◌∙◌, sym, ap, ◌&&◌}
use Rattle.acl_names.specs.Bits.{has}
use Rattle.acl_nfs4.proofs.MaskBits.{contains-one}
use Rattle.acl_nfs4.proofs.mode.allows_writing.Goals as goal

pub returns-then-contains : goal.returns-then-contains
returns-then-contains c =
    c.contains-then-contains.ensures tt ∙ contains-one c.args.allowed.0 2
    ∙ sym (ap (λ b. b && has c.args.allowed.0 2) (sym (contains-one c.args.allowed.0 1) ∙ sym (c.contains.ensures tt) ∙ c.if-contains.true))

pub returns-else-contains : goal.returns-else-contains
returns-else-contains c =
    c.if-contains.false
    ∙ sym (ap (λ b. b && has c.args.allowed.0 2) (sym (contains-one c.args.allowed.0 1) ∙ sym (c.contains.ensures tt) ∙ c.if-contains.false))

use Rattle.std.proofs.Common.{◌↔◌, ℕ, subst}
use Rattle.std.specs.Prelude.{IsTrue}
use Rattle.acl_nfs4.specs.Evaluation.{Grants}
use Rattle.acl_nfs4.specs.Who.{matches}
use Rattle.acl_queries.proofs.explain_command.text.grants_perms.Goals as goal

pub returns : goal.returns
returns c =
    subst (λ (mask : ℕ). IsTrue c.grants4.result ↔ Grants (matches c.args.owner c.args.group c.args.requester.now) c.args.acl.now mask)
    c.mask_of-mask.ensures c.grants4.ensures.grants

use Rattle.std.proofs.Common.{◌∙◌, ℕ, ap, ap₂}
use Rattle.acl_names.specs.Bits.{without}
use Rattle.acl_nfs4.specs.ModeChange.{beyond_group}
use Rattle.acl_nfs4.proofs.ModeChangeLeast.{beyond-known}
use Rattle.acl_nfs4.proofs.mode_change.beyond_group.Goals as goal

pub returns-clause-known : goal.returns-clause-known
returns-clause-known c =
    beyond-known c.args.mode (c.without.ensures tt ∙ ap₂ (λ (other group : ℕ). without other group) c.mask_of.ensures c.mask_of-2.ensures ∙ ap beyond_group c.mode.view_is)

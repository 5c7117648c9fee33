use Rattle.std.proofs.Common.{◌≡◌, ◌∙◌, ℕ, sym, ap, subst, List}
use Rattle.acl_nfs4.specs.Ace.{Nfsace4}
use Rattle.acl_nfs4.specs.Evaluation.{mode_of}
use Rattle.acl_nfs4.specs.Mask.{rest_of}
use Rattle.acl_nfs4.specs.ModeChange.{with_denials, with_mode}
use Rattle.acl_nfs4.specs.ModeChangeLaws.{GrantsOwner, GrantsGroup, GrantsOthers, LimitsNamed, KeepsAudits, KeepsInheritOnly, InheritsAlike}
use Rattle.acl_nfs4.proofs.ModeChangeGrants.{grants-owner, grants-group, grants-others, limits-named, mode_of-with_mode}
use Rattle.acl_nfs4.proofs.ModeChangeTwice.{with_mode-twice}
use Rattle.acl_nfs4.proofs.ModeChangeLeaves.{audits-with_mode, inherit_only-with_mode, inherited-with_mode}
use Rattle.acl_nfs4.proofs.acl.Acl4.chmod4.Goals as goal
use Rattle.acl_nfs4.proofs.acl.Acl4.chmod4.Goals.{In-Ok}

-- the new list is the old one with the mode set
set : (c : In-Ok) → with_mode c.args.self.now c.args.mode ≡ c.set_mode.new.self
set c = sym (c.in-Ok.ensures.ok ∙ ap (λ (bits : ℕ). with_denials bits c.args.self.now c.args.mode) c.lacking.ensures.value)

pub returns-in-Ok-clause-shown : goal.returns-in-Ok-clause-shown
returns-in-Ok-clause-shown c = subst (λ (new : List Nfsace4). mode_of new ≡ c.args.mode) (set c) (mode_of-with_mode c.args.self.now c.args.mode c.lacking.ensures.classes)

pub returns-in-Ok-clause-owner_granted : goal.returns-in-Ok-clause-owner_granted
returns-in-Ok-clause-owner_granted c = subst (λ (new : List Nfsace4). GrantsOwner new c.args.mode) (set c) (grants-owner c.args.self.now c.args.mode)

pub returns-in-Ok-clause-group_granted : goal.returns-in-Ok-clause-group_granted
returns-in-Ok-clause-group_granted c = subst (λ (new : List Nfsace4). GrantsGroup c.args.self.now new c.args.mode) (set c) (grants-group c.args.self.now c.args.mode)

pub returns-in-Ok-clause-others_granted : goal.returns-in-Ok-clause-others_granted
returns-in-Ok-clause-others_granted c = subst (λ (new : List Nfsace4). GrantsOthers c.args.self.now new c.args.mode) (set c) (grants-others c.args.self.now c.args.mode)

pub returns-in-Ok-clause-named_limited : goal.returns-in-Ok-clause-named_limited
returns-in-Ok-clause-named_limited c = subst (λ (new : List Nfsace4). LimitsNamed c.args.self.now new c.args.mode) (set c) (limits-named c.args.self.now c.args.mode)

pub returns-in-Ok-clause-audits_kept : goal.returns-in-Ok-clause-audits_kept
returns-in-Ok-clause-audits_kept c = subst (λ (new : List Nfsace4). KeepsAudits c.args.self.now new) (set c) (audits-with_mode (rest_of c.args.mode.group) c.args.self.now c.args.mode)

pub returns-in-Ok-clause-inherit_only_kept : goal.returns-in-Ok-clause-inherit_only_kept
returns-in-Ok-clause-inherit_only_kept c = subst (λ (new : List Nfsace4). KeepsInheritOnly c.args.self.now new) (set c) (inherit_only-with_mode (rest_of c.args.mode.group) c.args.self.now c.args.mode)

pub returns-in-Ok-clause-inherits_alike : goal.returns-in-Ok-clause-inherits_alike
returns-in-Ok-clause-inherits_alike c = subst (λ (new : List Nfsace4). InheritsAlike c.args.self.now new) (set c) (λ kind. inherited-with_mode (rest_of c.args.mode.group) kind c.args.self.now c.args.mode)

pub returns-in-Ok-clause-again : goal.returns-in-Ok-clause-again
returns-in-Ok-clause-again c = subst (λ (new : List Nfsace4). with_mode new c.args.mode ≡ new) (set c) (with_mode-twice (rest_of c.args.mode.group) c.args.self.now c.args.mode)

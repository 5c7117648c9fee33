use Rattle.std.proofs.Common.{◌≡◌, ◌∙◌, ℕ, sym, ap, subst, List}
use Rattle.acl_nfs4.specs.Ace.{Nfsace4}
use Rattle.acl_nfs4.specs.Evaluation.{mode_of}
use Rattle.acl_nfs4.specs.ModeChange.{beyond_group, with_denials, with_mode, with_mode_least}
use Rattle.acl_nfs4.specs.ModeChangeLaws.{DecideEachAlike, GrantsOwner, GrantsGroup, GrantsOthers, LimitsNamed, KeepsAudits, KeepsInheritOnly, InheritsAlike}
use Rattle.acl_nfs4.proofs.ModeChangeLeast.{least-alike, least-group, least-named, least-others, least-owner, least-shows, least-undenied}
use Rattle.acl_nfs4.proofs.ModeChangeTwice.{with_mode-twice}
use Rattle.acl_nfs4.proofs.ModeChangeLeaves.{audits-with_mode, inherit_only-with_mode, inherited-with_mode}
use Rattle.acl_nfs4.proofs.acl.Acl4.chmod4_least.Goals as goal
use Rattle.acl_nfs4.proofs.acl.Acl4.chmod4_least.Goals.{In-Ok}

-- the new list is the old one with the mode set
set : (c : In-Ok) → with_mode_least c.args.self.now c.args.mode ≡ c.set_mode.new.self
set c = sym (c.in-Ok.ensures.ok ∙ ap (λ (bits : ℕ). with_denials bits c.args.self.now c.args.mode) c.beyond_group.ensures.value)

pub returns-in-Ok-clause-shown : goal.returns-in-Ok-clause-shown
returns-in-Ok-clause-shown c = subst (λ (new : List Nfsace4). mode_of new ≡ c.args.mode) (set c) (least-shows c.args.self.now c.args.mode c.beyond_group.ensures.classes)

pub returns-in-Ok-clause-owner_granted : goal.returns-in-Ok-clause-owner_granted
returns-in-Ok-clause-owner_granted c = subst (λ (new : List Nfsace4). GrantsOwner new c.args.mode) (set c) (least-owner c.args.self.now c.args.mode)

pub returns-in-Ok-clause-group_granted : goal.returns-in-Ok-clause-group_granted
returns-in-Ok-clause-group_granted c = subst (λ (new : List Nfsace4). GrantsGroup c.args.self.now new c.args.mode) (set c) (least-group c.args.self.now c.args.mode)

pub returns-in-Ok-clause-others_granted : goal.returns-in-Ok-clause-others_granted
returns-in-Ok-clause-others_granted c = subst (λ (new : List Nfsace4). GrantsOthers c.args.self.now new c.args.mode) (set c) (least-others c.args.self.now c.args.mode)

pub returns-in-Ok-clause-named_limited : goal.returns-in-Ok-clause-named_limited
returns-in-Ok-clause-named_limited c = subst (λ (new : List Nfsace4). LimitsNamed c.args.self.now new c.args.mode) (set c) (least-named c.args.self.now c.args.mode)

pub returns-in-Ok-clause-audits_kept : goal.returns-in-Ok-clause-audits_kept
returns-in-Ok-clause-audits_kept c = subst (λ (new : List Nfsace4). KeepsAudits c.args.self.now new) (set c) (audits-with_mode (beyond_group c.args.mode) c.args.self.now c.args.mode)

pub returns-in-Ok-clause-inherit_only_kept : goal.returns-in-Ok-clause-inherit_only_kept
returns-in-Ok-clause-inherit_only_kept c = subst (λ (new : List Nfsace4). KeepsInheritOnly c.args.self.now new) (set c) (inherit_only-with_mode (beyond_group c.args.mode) c.args.self.now c.args.mode)

pub returns-in-Ok-clause-inherits_alike : goal.returns-in-Ok-clause-inherits_alike
returns-in-Ok-clause-inherits_alike c = subst (λ (new : List Nfsace4). InheritsAlike c.args.self.now new) (set c) (λ kind. inherited-with_mode (beyond_group c.args.mode) kind c.args.self.now c.args.mode)

pub returns-in-Ok-clause-again : goal.returns-in-Ok-clause-again
returns-in-Ok-clause-again c = subst (λ (new : List Nfsace4). with_mode_least new c.args.mode ≡ new) (set c) (with_mode-twice (beyond_group c.args.mode) c.args.self.now c.args.mode)

pub returns-in-Ok-clause-alike : goal.returns-in-Ok-clause-alike
returns-in-Ok-clause-alike c = subst (λ (new : List Nfsace4). DecideEachAlike new (with_mode c.args.self.now c.args.mode)) (set c) (least-alike c.args.self.now c.args.mode)

pub returns-in-Ok-clause-undenied : goal.returns-in-Ok-clause-undenied
returns-in-Ok-clause-undenied c none = sym (set c) ∙ least-undenied c.args.self.now c.args.mode none

use Rattle.std.proofs.Common.{◌≡◌, ◌∙◌, sym, ap, subst, ℕ, ◌&&◌, ◌||◌, not}
use Rattle.acl_names.specs.Bits.{has, without, ◌∩◌}
use Rattle.acl_nfs4.specs.Ace.{Nfsace4, is_idle}
use Rattle.acl_nfs4.specs.Flags.{all_flags, inheritance_flags, identifier_group}
use Rattle.acl_nfs4.proofs.AceLemmas.{within-without}
use Rattle.acl_nfs4.proofs.ModeChangeParts.{cleared-group_flag, cleared-effective}
use Rattle.acl_nfs4.proofs.ace.Ace.effective_part.Goals as goal

pub with_flags-requires-clause-known : goal.with_flags-requires-clause-known
with_flags-requires-clause-known c =
    subst (λ (f : ℕ). f ∩ all_flags ≡ f) (sym (c.without_inheritance.ensures ∙ ap (λ (f : ℕ). without f inheritance_flags) c.flags.ensures.value))
    (within-without c.args.self.now.flags inheritance_flags all_flags c.flags.ensures.ace.known_flags)

pub with_flags-requires-clause-group : goal.with_flags-requires-clause-group
with_flags-requires-clause-group c =
    ap (λ (f : ℕ). has f identifier_group) (c.without_inheritance.ensures ∙ ap (λ (f : ℕ). without f inheritance_flags) c.flags.ensures.value)
    ∙ cleared-group_flag c.args.self.now.flags
    ∙ sym (ap (λ (ace : Nfsace4). has ace.flags identifier_group) c.with_kept_mask.ensures)

pub returns-clause-effective : goal.returns-clause-effective
returns-clause-effective c =
    ap is_idle c.with_flags.ensures
    ∙ ap (λ (f : ℕ). has f 3 && not (has f 0 || has f 1))
    (c.without_inheritance.ensures ∙ ap (λ (f : ℕ). without f inheritance_flags) c.flags.ensures.value)
    ∙ cleared-effective c.args.group.0 c.args.self.now

use Rattle.std.proofs.Common.{◌≡◌, ◌∙◌, sym, ap, subst, ℕ, ◌&&◌, ◌||◌, not}
use Rattle.acl_names.specs.Bits.{has, ◌∩◌, ◌∪◌}
use Rattle.acl_nfs4.specs.Ace.{is_idle}
use Rattle.acl_nfs4.specs.Flags.{all_flags, identifier_group}
use Rattle.acl_nfs4.proofs.ModeChangeParts.{inherit_only-within, inherit_only-group_flag, inherit_only-effective}
use Rattle.acl_nfs4.proofs.ace.Ace.inherited_part.Goals as goal

pub with_flags-requires-clause-known : goal.with_flags-requires-clause-known
with_flags-requires-clause-known c =
    subst (λ (f : ℕ). f ∩ all_flags ≡ f) (sym (c.union.ensures tt ∙ ap (λ (f : ℕ). f ∪ 8) c.flags.ensures.value))
    (inherit_only-within c.args.self.now.flags c.flags.ensures.ace.known_flags)

pub with_flags-requires-clause-group : goal.with_flags-requires-clause-group
with_flags-requires-clause-group c =
    ap (λ (f : ℕ). has f identifier_group) (c.union.ensures tt ∙ ap (λ (f : ℕ). f ∪ 8) c.flags.ensures.value)
    ∙ inherit_only-group_flag c.args.self.now.flags

pub returns-clause-effective : goal.returns-clause-effective
returns-clause-effective c =
    ap is_idle c.with_flags.ensures
    ∙ ap (λ (f : ℕ). has f 3 && not (has f 0 || has f 1)) (c.union.ensures tt ∙ ap (λ (f : ℕ). f ∪ 8) c.flags.ensures.value)
    ∙ inherit_only-effective c.args.self.now c.requires

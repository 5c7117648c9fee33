use Rattle.std.proofs.Common.{◌≡◌, ◌∙◌, sym, ap, subst, ◌&&◌, ◌||◌, not, ℕ}
use Rattle.acl_names.specs.Bits.{has, without, ◌∩◌, ◌∪◌}
use Rattle.acl_nfs4.specs.Ace.{is_idle}
use Rattle.acl_nfs4.specs.Flags.{all_flags, inheritance_flags, identifier_group, flag_bits}
use Rattle.acl_nfs4.proofs.InheritanceLemmas.{passed_on, passed-within, passed-group_flag, passed-effective}
use Rattle.acl_nfs4.proofs.ace.Ace.inherited.Goals as goal
use Rattle.acl_nfs4.proofs.ace.Ace.inherited.Goals.{After-union-flags}

-- the flags that the entry gets
made : (c : After-union-flags) → flag_bits c.union-flags.result ≡ without c.args.self.now.flags inheritance_flags ∪ flag_bits c.in-Some.below
made c =
    c.union-flags.ensures tt
    ∙ ap (λ (f : ℕ). f ∪ flag_bits c.in-Some.below)
    (c.without_inheritance.ensures ∙ ap (λ (f : ℕ). without f inheritance_flags) c.flags-in-Some.ensures.value)

pub with_flags-requires-clause-known : goal.with_flags-requires-clause-known
with_flags-requires-clause-known c =
    subst (λ (f : ℕ). f ∩ all_flags ≡ f) (sym (made c))
    (passed-within c.args.self.now.flags (flag_bits c.in-Some.below) c.flags-in-Some.ensures.ace.known_flags
    (passed_on c.args.kind _ _ _ (flag_bits c.in-Some.below) c.in-Some.ensures))

pub with_flags-requires-clause-group : goal.with_flags-requires-clause-group
with_flags-requires-clause-group c =
    ap (λ (f : ℕ). has f identifier_group) (made c)
    ∙ passed-group_flag c.args.self.now.flags (flag_bits c.in-Some.below)
    (passed_on c.args.kind _ _ _ (flag_bits c.in-Some.below) c.in-Some.ensures)

pub returns-in-Some-clause-effective : goal.returns-in-Some-clause-effective
returns-in-Some-clause-effective c =
    ap is_idle c.with_flags.ensures
    ∙ ap (λ (f : ℕ). has f 3 && not (has f 0 || has f 1))
    (c.union-flags.ensures tt
    ∙ ap (λ (f : ℕ). f ∪ flag_bits c.in-Some.below)
    (c.without_inheritance.ensures ∙ ap (λ (f : ℕ). without f inheritance_flags) c.flags-in-Some.ensures.value))
    ∙ passed-effective c.args.self.now.flags (flag_bits c.in-Some.below)
    (passed_on c.args.kind _ _ _ (flag_bits c.in-Some.below) c.in-Some.ensures)

use Rattle.std.proofs.Common.{◌<◌, ℕ, subst, sym}
use Rattle.acl_posix.specs.Perms.{bits_of}
use Rattle.acl_listing_creation.proofs.ModeLemmas.{without-small}
use Rattle.acl_listing_creation.proofs.creation.beyond_umask.Goals as goal

pub invariant_of-result : goal.invariant_of-result
invariant_of-result c =
    let mode = c.mode.inside in
    let umask = c.umask.inside in
    record {
      user_is = subst (λ (n : ℕ). n < 8) (sym (c.without.ensures tt)) (without-small (bits_of mode.user) (bits_of umask.user) c.mode.invariant.user_is);
      group_is = subst (λ (n : ℕ). n < 8) (sym (c.without-2.ensures tt)) (without-small (bits_of mode.group) (bits_of umask.group) c.mode.invariant.group_is);
      other_is = subst (λ (n : ℕ). n < 8) (sym (c.without-3.ensures tt)) (without-small (bits_of mode.other) (bits_of umask.other) c.mode.invariant.other_is);
    }

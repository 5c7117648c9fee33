-- What was found of two lists, as what they decide differently.
use Rattle.std.proofs.Common.{◌≡◌, ◌∙◌, inl, inr, ℕ, List, Option, Some, None, refl, sym, subst, ◌↔◌, IfSome, MatchOption}
use Rattle.std.specs.List.{AllByRecursion}
use Rattle.std.proofs.Math.Bool.{or_comm}
use Rattle.acl_names.specs.Bits.{has, ◌∪◌}
use Rattle.acl_names.proofs.BitSets.{has-or, same_bits}
use Rattle.acl_posix.specs.Entry.{EntryValue}
use Rattle.acl_nfs4.specs.Ace.{Nfsace4}
use Rattle.acl_nfs4.specs.Comparison.{DecideAlike, Decider, IsDifference, decided_at}
use Rattle.acl_nfs4.specs.Mask.{all_masks, mask_bits}
use Rattle.acl_nfs4.specs.declared.comparison.Difference.{Difference}
use Rattle.acl_nfs4.specs.declared.owners.Owners.{Owners}
use Rattle.acl_bridge.specs.Comparison.{GrantAlikeToAll, IsFirstDifference, granted_at, grants_at, permission_bits, whole_requests}
use Rattle.acl_bridge.specs.Files.{file_with}
use Rattle.acl_bridge.specs.Lists.{Finds}
use Rattle.acl_bridge.specs.declared.any_acl.AnyAcl.TheVariants.{Nfs4, Posix}

module _ (owners other_owners : Owners) where
  -- of two NFSv4 lists all bits were compared
  pub nfs4_found : (found : Option Difference) (first second : List Nfsace4) (bits : ℕ) → bits ≡ all_masks
      → (found ≡ None) ↔ DecideAlike (decided_at first owners) (decided_at second other_owners) bits
      → IfSome found (IsDifference (decided_at first owners) (decided_at second other_owners) bits)
      → Finds (file_with owners (Nfs4 first)) (file_with other_owners (Nfs4 second)) found
  nfs4_found None first second bits all none some =
      (subst (λ (b : ℕ). DecideAlike (decided_at first owners) (decided_at second other_owners) b) all (none.0 refl), tt)
  nfs4_found (Some difference) first second bits all none some =
      inl (subst (λ (b : ℕ). IsDifference (decided_at first owners) (decided_at second other_owners) b difference) all some)

  -- of two POSIX lists that decide each permission alike, whole requests were compared
  pub whole_found : (found : Option Difference) (first second : List EntryValue)
      → DecideAlike (granted_at first owners) (granted_at second other_owners) permission_bits
      → MatchOption found (AllByRecursion (GrantAlikeToAll (grants_at first owners) (grants_at second other_owners)) whole_requests)
      (IsFirstDifference (grants_at first owners) (grants_at second other_owners) whole_requests)
      → Finds (file_with owners (Posix first)) (file_with other_owners (Posix second)) found
  whole_found None first second alike all = (alike, all)
  whole_found (Some difference) first second alike is = inr (alike, is)

∪-comm : (a b : ℕ) → a ∪ b ≡ b ∪ a
∪-comm a b = same_bits (a ∪ b) (b ∪ a) (λ k. has-or a b k ∙ or_comm (has a k) (has b k) ∙ sym (has-or b a k))

-- what is lost in one direction is gained in the other
pub swapped_is : (before after : Decider) (bits : ℕ) (difference : Difference) → IsDifference before after bits difference
    → IsDifference after before bits (record { asker = difference.asker; lost = difference.gained; gained = difference.lost })
swapped_is before after bits difference is = record {
  lost = is.gained;
  gained = is.lost;
  some = λ none. is.some (∪-comm (mask_bits difference.lost) (mask_bits difference.gained) ∙ none);
}

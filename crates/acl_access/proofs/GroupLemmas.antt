-- If everyone in at most two groups is decided about alike, everyone is.
use Rattle.std.proofs.Common.{◌≡◌, ◌∙◌, ◌≤◌, ◌^◌, ℕ, true, List, length, sym}
use Rattle.acl_names.specs.Bits.{has}
use Rattle.acl_names.specs.Requester.{Identity}
use Rattle.acl_posix.specs.Entry.{EntryValue}
use Rattle.acl_posix.specs.Validity.{IsValid}
use Rattle.acl_nfs4.specs.Ace.{Nfsace4}
use Rattle.acl_nfs4.specs.Comparison.{DecideAlike, decided_at}
use Rattle.acl_nfs4.specs.Mask.{all_masks, mode_bits}
use Rattle.acl_nfs4.specs.declared.owners.Owners.{Owners}
use Rattle.acl_nfs4.proofs.ComparisonLemmas.{two_groups_suffice}
use Rattle.acl_bridge.specs.Comparison.{GrantAlike, granted_at, grants_at, permission_of}
use Rattle.acl_bridge.specs.Translation.{translation}
use Rattle.acl_bridge.proofs.ComparisonLemmas.{translation_decides_each_bit}
use Rattle.acl_bridge.proofs.ComparisonRequests.{two_groups_suffice_posix}
use Rattle.acl_bridge.specs.Files.{file_with}
use Rattle.acl_bridge.specs.declared.any_acl.AnyAcl.{AnyAcl}
use Rattle.acl_bridge.specs.declared.any_acl.AnyAcl.TheVariants.{Posix, Nfs4}
use Rattle.acl_access.specs.Changes.{AreValid, IsAlikeTo, IsAlikeToAll, TwoGroupsSuffice}

-- a POSIX list and an NFSv4 list
towards_nfs4 : (owners other_owners : Owners) (acl : List EntryValue) (aces : List Nfsace4) → IsValid acl
    → ((requester : Identity) → length requester.gids ≤ 2 → (bit : ℕ) → has mode_bits bit ≡ true
    → granted_at acl owners requester bit ≡ decided_at aces other_owners requester bit)
    → DecideAlike (granted_at acl owners) (decided_at aces other_owners) mode_bits
towards_nfs4 owners other_owners acl aces valid few requester bit asked =
    translation_decides_each_bit acl valid owners.owner owners.group requester bit asked
    ∙ two_groups_suffice (translation acl) aces owners other_owners mode_bits
    (λ one at_most place there. sym (translation_decides_each_bit acl valid owners.owner owners.group one place there) ∙ few one at_most place there)
    requester bit asked

module _ (owners other_owners : Owners) where
  -- everyone in at most two groups is decided alike
  abbrev FewAlike : AnyAcl → AnyAcl → Type 0
  FewAlike before after =
      (requester : Identity) → length requester.gids ≤ 2 → IsAlikeTo (file_with owners before) (file_with other_owners after) requester

  all_alike : (before after : AnyAcl) → AreValid before → AreValid after → FewAlike before after
      → IsAlikeToAll (file_with owners before) (file_with other_owners after)
  all_alike (Nfs4 before) (Nfs4 after) valid_before valid_after few requester = record {
    bits = two_groups_suffice before after owners other_owners all_masks (λ one at_most. (few one at_most).bits) requester;
    requests = tt;
  }
  all_alike (Posix before) (Posix after) valid_before valid_after few requester =
      let whole : (request : ℕ) → ((one : Identity) → length one.gids ≤ 2 → GrantAlike (grants_at before owners) (grants_at after other_owners) request one)
      → GrantAlike (grants_at before owners) (grants_at after other_owners) request requester =
      λ request alike. two_groups_suffice_posix before after valid_before valid_after owners other_owners request alike requester in
      record {
        bits = λ bit asked. whole (2 ^ permission_of bit) (λ one at_most. (few one at_most).bits bit asked);
        requests = (
          whole 6 (λ one at_most. (few one at_most).requests.0),
          (
            whole 5 (λ one at_most. (few one at_most).requests.1.0),
            (whole 3 (λ one at_most. (few one at_most).requests.1.1.0), (whole 7 (λ one at_most. (few one at_most).requests.1.1.1.0), tt)),
          ),
        );
      }
  all_alike (Posix before) (Nfs4 after) valid_before valid_after few requester = record {
    bits = towards_nfs4 owners other_owners before after valid_before (λ one at_most. (few one at_most).bits) requester;
    requests = tt;
  }
  all_alike (Nfs4 before) (Posix after) valid_before valid_after few requester = record {
    bits = λ bit asked. sym (towards_nfs4 other_owners owners after before valid_after
        (λ one at_most place there. sym ((few one at_most).bits place there)) requester bit asked);
    requests = tt;
  }

pub two_groups_suffice_for_files : TwoGroupsSuffice
two_groups_suffice_for_files before after valid_before valid_after few =
    all_alike before.owners after.owners before.list after.list valid_before valid_after few

-- If the askers of pairs of entries who aren't known are decided about alike, everybody else is.
use Rattle.std.proofs.Common.{◌≡◌, ◌∙◌, ◌⊎◌, ◌^◌, inl, inr, ℕ, false, List, Option, Some, None, MatchOption, ap, subst, sym}
use Rattle.acl_names.specs.Requester.{Identity}
use Rattle.acl_posix.specs.Entry.{EntryValue}
use Rattle.acl_posix.specs.Validity.{IsValid}
use Rattle.acl_nfs4.specs.Ace.{Nfsace4}
use Rattle.acl_nfs4.specs.Comparison.{AlikeFor, AsksPairs, IsStrangerTo, is_known}
use Rattle.acl_nfs4.specs.Mask.{all_masks, mode_bits}
use Rattle.acl_nfs4.specs.Who.{who_of}
use Rattle.acl_nfs4.specs.declared.comparison.Difference.{Difference}
use Rattle.acl_nfs4.specs.declared.owners.Owners.{Owners}
use Rattle.acl_nfs4.specs.declared.who.Who.{Who}
use Rattle.acl_nfs4.proofs.ComparisonLemmas.{OfEither, pairs_suffice_for, pairs_weaker}
use Rattle.acl_bridge.specs.Comparison.{GrantAlike, grants_at, permission_of}
use Rattle.acl_bridge.specs.Files.{File, file_with}
use Rattle.acl_bridge.specs.Translation.{translation}
use Rattle.acl_bridge.specs.declared.any_acl.AnyAcl.{AnyAcl}
use Rattle.acl_bridge.specs.declared.any_acl.AnyAcl.TheVariants.{Posix, Nfs4}
use Rattle.acl_bridge.proofs.ComparisonLemmas.{translation_decides_each_bit}
use Rattle.acl_bridge.proofs.ComparisonPairs.{granted_for}
use Rattle.acl_access.specs.Changes.{FindsAnybody, IsAlikeTo, IsSomebody}

module _ (known : List Identity) where
  -- one of the others is decided about alike
  abbrev pub IsAlikeIfOther : File → File → Identity → Type 0
  IsAlikeIfOther before after who = is_known known who.uid ≡ false → IsAlikeTo before after who

  -- what was found among the askers of pairs of entries, with a stranger who is one of the others
  abbrev pub FoundAmong : {E : Type 0} → (E → Who) → List E → List E → File → File → Option Difference → Type 0
  FoundAmong who first second before after found = (stranger : ℕ)
      × IsStrangerTo who first before.owners.owner second after.owners.owner known stranger
      × MatchOption found (AsksPairs who first second before.owners after.owners stranger (IsAlikeIfOther before after)) (IsSomebody known before after)

  -- who has the uid of one of the others is one of them
  unknown_too : (requester asker : Identity) (stranger : ℕ) → is_known known requester.uid ≡ false → is_known known stranger ≡ false
      → (requester.uid ≡ asker.uid) ⊎ (asker.uid ≡ stranger) → is_known known asker.uid ≡ false
  unknown_too requester asker stranger unknown strange (inl own) = sym (ap (is_known known) own) ∙ unknown
  unknown_too requester asker stranger unknown strange (inr same) = ap (is_known known) same ∙ strange

  module _ {E : Type 0} (who : E → Who) (first second : List E) (before after : File) (stranger : ℕ)
      (strange : is_known known stranger ≡ false) (each : AsksPairs who first second before.owners after.owners stranger (IsAlikeIfOther before after))
      (requester : Identity) (unknown : is_known known requester.uid ≡ false) where
    -- what follows of those who are decided about alike, of those with the uid of one of the others or of the stranger
    either : (P : Identity → Type 0) → ((asker : Identity) → IsAlikeTo before after asker → P asker)
        → AsksPairs who first second before.owners after.owners stranger (OfEither requester stranger P)
    either P follows =
        pairs_weaker who first second before.owners after.owners stranger (IsAlikeIfOther before after) (OfEither requester stranger P)
        (λ asker alike own. follows asker (alike (unknown_too requester asker stranger unknown strange own))) each

  module _ (owners other_owners : Owners) where
    pub of_nfs4 : (first second : List Nfsace4) (found : Option Difference)
        → FoundAmong (λ (ace : Nfsace4). ace.who) first second (file_with owners (Nfs4 first)) (file_with other_owners (Nfs4 second)) found
        → FindsAnybody known (file_with owners (Nfs4 first)) (file_with other_owners (Nfs4 second)) found
    of_nfs4 first second (Some difference) (stranger, strange, is) = is
    of_nfs4 first second None (stranger, strange, each) = λ requester unknown. record {
      bits = pairs_suffice_for first second owners other_owners all_masks requester stranger strange.to_first strange.to_second
          (either (λ (ace : Nfsace4). ace.who) first second (file_with owners (Nfs4 first)) (file_with other_owners (Nfs4 second)) stranger strange.unknown each
          requester unknown (AlikeFor first second owners other_owners all_masks) (λ asker alike. alike.bits));
      requests = tt;
    }

    pub of_posix : (first second : List EntryValue) → IsValid first → IsValid second → (found : Option Difference)
        → FoundAmong (λ (entry : EntryValue). who_of entry.tag) first second (file_with owners (Posix first)) (file_with other_owners (Posix second)) found
        → FindsAnybody known (file_with owners (Posix first)) (file_with other_owners (Posix second)) found
    of_posix first second valid_first valid_second (Some difference) (stranger, strange, is) = is
    of_posix first second valid_first valid_second None (stranger, strange, each) = λ requester unknown.
        let before : File = file_with owners (Posix first) in
        let after : File = file_with other_owners (Posix second) in
        let Granted : ℕ → Identity → Type 0 = GrantAlike (grants_at first owners) (grants_at second other_owners) in
        let whole : (request : ℕ) → ((asker : Identity) → IsAlikeTo before after asker → Granted request asker) → Granted request requester =
        λ request follows. granted_for first second valid_first valid_second owners other_owners request requester stranger strange.to_first strange.to_second
        (either (λ (entry : EntryValue). who_of entry.tag) first second before after stranger strange.unknown each requester unknown (Granted request) follows) in
        record {
          bits = λ bit asked. whole (2 ^ permission_of bit) (λ asker alike. alike.bits bit asked);
          requests = (
            whole 6 (λ asker alike. alike.requests.0),
            (
              whole 5 (λ asker alike. alike.requests.1.0),
              (whole 3 (λ asker alike. alike.requests.1.1.0), (whole 7 (λ asker alike. alike.requests.1.1.1.0), tt)),
            ),
          );
        }

    pub of_posix_and_nfs4 : (acl : List EntryValue) (aces : List Nfsace4) → IsValid acl → (found : Option Difference)
        → FoundAmong (λ (ace : Nfsace4). ace.who) (translation acl) aces (file_with owners (Posix acl)) (file_with other_owners (Nfs4 aces)) found
        → FindsAnybody known (file_with owners (Posix acl)) (file_with other_owners (Nfs4 aces)) found
    of_posix_and_nfs4 acl aces valid (Some difference) (stranger, strange, is) = is
    of_posix_and_nfs4 acl aces valid None (stranger, strange, each) = λ requester unknown. record {
      bits = λ bit asked.
          translation_decides_each_bit acl valid owners.owner owners.group requester bit asked
          ∙ pairs_suffice_for (translation acl) aces owners other_owners mode_bits requester stranger strange.to_first strange.to_second
          (either (λ (ace : Nfsace4). ace.who) (translation acl) aces (file_with owners (Posix acl)) (file_with other_owners (Nfs4 aces)) stranger
          strange.unknown each requester unknown (AlikeFor (translation acl) aces owners other_owners mode_bits)
          (λ asker alike place there. sym (translation_decides_each_bit acl valid owners.owner owners.group asker place there) ∙ alike.bits place there))
          bit asked;
      requests = tt;
    }

    pub of_nfs4_and_posix : (aces : List Nfsace4) (acl : List EntryValue) → IsValid acl → (found : Option Difference)
        → FoundAmong (λ (ace : Nfsace4). ace.who) aces (translation acl) (file_with owners (Nfs4 aces)) (file_with other_owners (Posix acl)) found
        → FindsAnybody known (file_with owners (Nfs4 aces)) (file_with other_owners (Posix acl)) found
    of_nfs4_and_posix aces acl valid (Some difference) (stranger, strange, is) = is
    of_nfs4_and_posix aces acl valid None (stranger, strange, each) = λ requester unknown. record {
      bits = λ bit asked.
          pairs_suffice_for aces (translation acl) owners other_owners mode_bits requester stranger strange.to_first strange.to_second
          (either (λ (ace : Nfsace4). ace.who) aces (translation acl) (file_with owners (Nfs4 aces)) (file_with other_owners (Posix acl)) stranger
          strange.unknown each requester unknown (AlikeFor aces (translation acl) owners other_owners mode_bits)
          (λ asker alike place there. alike.bits place there ∙ translation_decides_each_bit acl valid other_owners.owner other_owners.group asker place there))
          bit asked
          ∙ sym (translation_decides_each_bit acl valid other_owners.owner other_owners.group requester bit asked);
      requests = tt;
    }

  -- ---- lists as they are shown

  -- so it is of lists that are these, and of entries that are theirs
  pub of_lists : {E : Type 0} (who : E → Who) (before after : File) (found : Option Difference) (list other_list : AnyAcl) (first second shown other_shown : List E)
      → before.list ≡ list → after.list ≡ other_list → shown ≡ first → other_shown ≡ second
      → (FoundAmong who first second (file_with before.owners list) (file_with after.owners other_list) found
      → FindsAnybody known (file_with before.owners list) (file_with after.owners other_list) found)
      → FoundAmong who shown other_shown before after found → FindsAnybody known before after found
  of_lists {E} who before after found list other_list first second shown other_shown list_is other_list_is shown_is other_shown_is finds =
      let Finds : AnyAcl → AnyAcl → List E → List E → Type 0 = λ old new one other.
      FoundAmong who one other (file_with before.owners old) (file_with after.owners new) found
      → FindsAnybody known (file_with before.owners old) (file_with after.owners new) found in
      subst (λ (old : AnyAcl). Finds old after.list shown other_shown) (sym list_is)
      (subst (λ (new : AnyAcl). Finds list new shown other_shown) (sym other_list_is)
      (subst (λ (one : List E). Finds list other_list one other_shown) (sym shown_is)
      (subst (λ (other : List E). Finds list other_list first other) (sym other_shown_is) finds)))

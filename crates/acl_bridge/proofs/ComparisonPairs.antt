-- The askers of all pairs of POSIX entries report whether two lists grant a request alike to everyone.
use Rattle.std.proofs.Common.{◌≡◌, ◌≢◌, ℕ, zero, suc, Bool, true, false, not, refl, sym, ◌∙◌, List, Some, get_or, arith}
use Rattle.std.specs.List.{All}
use Rattle.std.proofs.lemmas.Bool.{true≢false}
use Rattle.std.proofs.lemmas.List.Elements.{All-map}
use Rattle.acl_names.specs.Asker.{identity_of}
use Rattle.acl_names.specs.Bits.{has}
use Rattle.acl_names.specs.Requester.{Identity}
use Rattle.acl_names.proofs.BitSets.{has-above}
use Rattle.acl_posix.specs.Entry.{EntryValue}
use Rattle.acl_posix.specs.Validity.{IsValid}
use Rattle.acl_nfs4.specs.Ace.{Nfsace4}
use Rattle.acl_nfs4.specs.Comparison.{AlikeFor, AsksPairs, IsStranger, OfEach, OfEachAsker, asker_for, needed_uid}
use Rattle.acl_nfs4.specs.Who.{who_of}
use Rattle.acl_nfs4.specs.declared.owners.Owners.{Owners}
use Rattle.acl_nfs4.specs.declared.who.Who.TheVariants.{Everyone}
use Rattle.acl_nfs4.specs.declared.who.Who.{Who}
use Rattle.acl_nfs4.proofs.ComparisonLemmas.{OfEither, pairs_suffice_for, pairs_weaker}
use Rattle.acl_bridge.specs.Comparison.{GrantAlike, GrantAlikeToAll, Granter, IsUnlike, PairsSuffice, grants_at}
use Rattle.acl_bridge.specs.declared.requests.Unlike.{Unlike}
use Rattle.acl_bridge.specs.Translation.{translation}
use Rattle.acl_bridge.proofs.PassLemmas.{All-translation}
use Rattle.acl_bridge.proofs.ComparisonRequests.{as_reading, with_perms, reading, read_as}

-- ---- what holds of each who that entries stand for holds of each entry of the translation

module _ (P : Who → Type 0) where
  pub of_translation : (acl : List EntryValue) → All (λ entry. P (who_of entry.tag)) acl → All (λ ace. P ace.who) (translation acl)
  of_translation = All-translation P (λ (ace : Nfsace4). P ace.who) (λ kind who mask holds. holds)

  pub of_reading : (request : ℕ) (acl : List EntryValue) → All (λ entry. P (who_of entry.tag)) acl → All (λ ace. P ace.who) (translation (as_reading request acl))
  of_reading request acl all =
      of_translation (as_reading request acl)
      (All-map (λ (entry : EntryValue). P (who_of entry.tag)) (with_perms (reading request acl)) acl all)

module _ (first second : List EntryValue) (valid_first : IsValid first) (valid_second : IsValid second) (owners other_owners : Owners) (request : ℕ) where
  -- the translations, with the request as the bit to read, decide alike for whoever is granted the request alike
  at : (requester : Identity) → GrantAlike (grants_at first owners) (grants_at second other_owners) request requester
      → AlikeFor (translation (as_reading request first)) (translation (as_reading request second)) owners other_owners 1 requester
  unfolding has
  at requester same zero asked =
      read_as first valid_first owners.owner owners.group request requester ∙ same
      ∙ sym (read_as second valid_second other_owners.owner other_owners.group request requester)
  at requester same (suc bit) asked = absurd (true≢false (sym asked ∙ has-above 1 1 (suc bit) (omega arith) (omega arith)))

  abbrev pub Granted : Identity → Type 0
  Granted = GrantAlike (grants_at first owners) (grants_at second other_owners) request

  abbrev pub Decided : Identity → Type 0
  Decided = AlikeFor (translation (as_reading request first)) (translation (as_reading request second)) owners other_owners 1

  -- pairs of entries have the askers of pairs of the translations' entries
  of_pairs : (stranger : ℕ) (P : Identity → Type 0)
      → AsksPairs (λ (entry : EntryValue). who_of entry.tag) first second owners other_owners stranger P
      → AsksPairs (λ (ace : Nfsace4). ace.who) (translation (as_reading request first)) (translation (as_reading request second)) owners other_owners stranger P
  of_pairs stranger P each =
      let At : Who → Who → Type 0 = λ who other. P (asker_for owners other_owners stranger who other) in
      let Across : Who → Type 0 = λ who. OfEach (λ (ace : Nfsace4). ace.who) (translation (as_reading request second)) (At who) in
      let across : (who : Who) → OfEach (λ (entry : EntryValue). who_of entry.tag) second (At who) → Across who =
      λ who holds. (of_reading (At who) request second holds.0, holds.1) in
      (of_reading Across request first (λ k d inside. across (who_of (get_or first k d).tag) (each.0 k d inside)), across Everyone each.1)

  -- those with the uid of a requester, or of a stranger, report whether that one is granted the request alike
  pub granted_for : (requester : Identity) (stranger : ℕ)
      → IsStranger (λ (entry : EntryValue). who_of entry.tag) owners.owner first stranger
      → IsStranger (λ (entry : EntryValue). who_of entry.tag) other_owners.owner second stranger
      → AsksPairs (λ (entry : EntryValue). who_of entry.tag) first second owners other_owners stranger (OfEither requester stranger Granted)
      → Granted requester
  unfolding has
  granted_for requester stranger to_first to_second each =
      let both : AsksPairs (λ (ace : Nfsace4). ace.who) (translation (as_reading request first)) (translation (as_reading request second)) owners other_owners stranger
      (OfEither requester stranger Decided) =
      pairs_weaker (λ (ace : Nfsace4). ace.who) (translation (as_reading request first)) (translation (as_reading request second)) owners other_owners stranger
      (OfEither requester stranger Granted) (OfEither requester stranger Decided) (λ asker alike own. at asker (alike own))
      (of_pairs stranger (OfEither requester stranger Granted) each) in
      sym (read_as first valid_first owners.owner owners.group request requester)
      ∙ pairs_suffice_for (translation (as_reading request first)) (translation (as_reading request second)) owners other_owners 1 requester stranger
      (of_reading (λ (who : Who). needed_uid owners.owner who ≢ Some stranger) request first to_first)
      (of_reading (λ (who : Who). needed_uid other_owners.owner who ≢ Some stranger) request second to_second)
      both 0 refl
      ∙ read_as second valid_second other_owners.owner other_owners.group request requester

  all_alike : OfEachAsker (λ (entry : EntryValue). who_of entry.tag) first second owners other_owners Granted
      → GrantAlikeToAll (grants_at first owners) (grants_at second other_owners) request
  all_alike asked requester =
      granted_for requester asked.stranger asked.to_first asked.to_second
      (pairs_weaker (λ (entry : EntryValue). who_of entry.tag) first second owners other_owners asked.stranger Granted (OfEither requester asked.stranger Granted)
      (λ asker alike own. alike) asked.each)

pub pairs_suffice_posix : PairsSuffice
pairs_suffice_posix first second valid_first valid_second owners other_owners request asked =
    all_alike first second valid_first valid_second owners other_owners request asked

-- what is granted differently to someone isn't granted alike to all
pub unlike_reports : (before after : Granter) (request : ℕ) (unlike : Unlike) → IsUnlike before after request unlike → GrantAlikeToAll before after request → ⊥
unlike_reports before after request unlike is alike =
    differs unlike.before (sym is.before ∙ alike (identity_of unlike.asker) ∙ is.after)
  where
    differs : (b : Bool) → b ≡ not b → ⊥
    differs true e = true≢false e
    differs false e = true≢false (sym e)

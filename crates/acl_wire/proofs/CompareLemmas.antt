-- Lists of numbers compared by the askers of the pairs of their entries.
use Rattle.std.proofs.Common.{◌≡◌, ◌≢◌, ℕ, List, [], Option, Some, None, Ok, MatchOption, get_or}
use Rattle.acl_names.specs.Requester.{Identity}
use Rattle.acl_nfs4.specs.Ace.{Nfsace4}
use Rattle.acl_nfs4.specs.Comparison.{AlikeFor, AsksPairs, IsStrangerTo, OfEach, asker_for, needed_uid}
use Rattle.acl_nfs4.specs.declared.owners.Owners.{Owners}
use Rattle.acl_nfs4.specs.declared.who.Who.{Who}
use Rattle.acl_nfs4.specs.declared.who.Who.TheVariants.{Everyone}
use Rattle.acl_nfs4.proofs.ComparisonLemmas.{pairs_suffice, pairs_weaker}
use Rattle.acl_wire.specs.Compare.{Differ}
use Rattle.acl_wire.specs.CompareSteps.{AreAlike, AreUnlikeBy, who_in}
use Rattle.acl_wire.specs.Decision.{values_of}
use Rattle.acl_wire.specs.declared.compare.RawDifference.{RawDifference}
use Rattle.acl_wire.specs.declared.raw_ace.RawAce.{RawAce}
use Rattle.acl_wire.proofs.ValuesLemmas.{each-value}

module _ (first second : List RawAce) (aces other_aces : List Nfsace4) (one : values_of first ≡ Ok aces) (two : values_of second ≡ Ok other_aces) (owners others : Owners) where
  of-second : (P : Who → Type 0) → OfEach who_in second P → OfEach (λ (ace : Nfsace4). ace.who) other_aces P
  of-second P each = (each-value P second other_aces two each.0, each.1)

  -- what holds of the askers of pairs of these entries holds of those of pairs of the lists'
  pairs-values : (stranger : ℕ) (P : Identity → Type 0) → AsksPairs who_in first second owners others stranger P → AsksPairs (λ (ace : Nfsace4). ace.who) aces other_aces owners others stranger P
  pairs-values stranger P each = (
    each-value (λ (who : Who). OfEach (λ (ace : Nfsace4). ace.who) other_aces (λ (other : Who). P (asker_for owners others stranger who other))) first aces one
        (λ k d inside. of-second (λ (other : Who). P (asker_for owners others stranger (who_in (get_or first k d)) other)) (each.0 k d inside)),
    of-second (λ (other : Who). P (asker_for owners others stranger Everyone other)) each.1,
  )

  pub compared-values : (bits stranger : ℕ) (found : Option RawDifference)
      → MatchOption found (AsksPairs who_in first second owners others stranger (AreAlike first owners second others bits)) (AreUnlikeBy first owners second others bits)
      → IsStrangerTo who_in first owners.owner second others.owner [] stranger
      → Differ aces owners other_aces others bits found
  compared-values bits stranger None pairs strange = pairs_suffice aces other_aces owners others bits (record {
    stranger = stranger;
    to_first = each-value (λ (who : Who). needed_uid owners.owner who ≢ Some stranger) first aces one strange.to_first;
    to_second = each-value (λ (who : Who). needed_uid others.owner who ≢ Some stranger) second other_aces two strange.to_second;
    each = pairs-values stranger (AlikeFor aces other_aces owners others bits)
        (pairs_weaker who_in first second owners others stranger (AreAlike first owners second others bits) (AlikeFor aces other_aces owners others bits)
        (λ asker alike. alike aces other_aces one two) pairs);
  })
  compared-values bits stranger (Some difference) unlike strange = unlike aces other_aces one two

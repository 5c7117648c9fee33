-- Why the askers of all pairs of entries report whether two lists decide alike for everyone.
use Rattle.std.proofs.Common.{◌≡◌, ◌≤◌, ◌==◌, ℕ, Bool, true, false, cond, ◌&&◌, ◌||◌, refl, sym, ap, ap₂}
use Rattle.std.proofs.Common.{subst, ◌∙◌, ◌⊎◌, inl, inr, List, [], ◌∷◌, ◌++◌, Option, Some, None, length}
use Rattle.std.proofs.Common.{arith, find, option_map, option_to_list, unwrap_or}
use Rattle.std.specs.List.{All, list_any}
use Rattle.std.proofs.lemmas.Bool.{true≢false, and_parts, or_cases, eqb-true, eq-eqb}
use Rattle.std.proofs.lemmas.List.Elements.{All-head, All-tail}
use Rattle.std.proofs.lemmas.List.Folds.{list_any-append}
use Rattle.std.proofs.Math.Bool.{or-true, or-false}
use Rattle.acl_names.specs.Bits.{has}
use Rattle.acl_names.specs.Requester.{Identity, is_in_group}
use Rattle.acl_nfs4.specs.Ace.{Nfsace4, decides, is_allow}
use Rattle.acl_nfs4.specs.Comparison.{AlikeFor, decided_at, needed_uid, needed_gid, asker_for, AsksPairs, IsStranger, OfEach, PairsSuffice, TwoGroupsSuffice}
use Rattle.acl_nfs4.specs.Evaluation.{speaks, allows}
use Rattle.acl_nfs4.specs.Who.{matches}
use Rattle.acl_nfs4.specs.declared.owners.Owners.{Owners}
use Rattle.acl_nfs4.specs.declared.who.Who.{Who}
use Rattle.acl_nfs4.specs.declared.who.Who.TheVariants.{Owner, Group, Everyone, User, NamedGroup}
use Rattle.acl_nfs4.proofs.EvaluationLoop.{allows-cons}

-- ---- fewer entries apply, but the first that speaks still does

-- whom the first entry that speaks of the bit is about; everyone, if none speaks
abbrev pub speaker : (Who → Bool) → ℕ → List Nfsace4 → Who
speaker applies bit aces = unwrap_or (option_map (λ (ace : Nfsace4). ace.who) (find (speaks applies bit) aces)) Everyone

speaker-cons : (applies : Who → Bool) (bit : ℕ) (ace : Nfsace4) (rest : List Nfsace4)
    → speaker applies bit (ace ∷ rest) ≡ cond (speaks applies bit ace) ace.who (speaker applies bit rest)
speaker-cons applies bit ace rest =
    elim (speaks applies bit ace)
    as (λ b. unwrap_or (option_map (λ (other : Nfsace4). other.who) (cond b (Some ace) (find (speaks applies bit) rest))) Everyone
    ≡ cond b ace.who (speaker applies bit rest))
    [ true ↦ refl | false ↦ refl ]

-- what holds of each who holds of the speaker
pub speaker-holds : (P : Who → Type 0) (applies : Who → Bool) (bit : ℕ) (aces : List Nfsace4) → OfEach (λ (ace : Nfsace4). ace.who) aces P → P (speaker applies bit aces)
speaker-holds P applies bit [] each = each.1
speaker-holds P applies bit (ace ∷ rest) each =
    subst P (sym (speaker-cons applies bit ace rest))
    (go (speaks applies bit ace) (speaker-holds P applies bit rest (All-tail (λ (other : Nfsace4). P other.who) ace rest each.0, each.1)))
  where
    go : (b : Bool) → P (speaker applies bit rest) → P (cond b ace.who (speaker applies bit rest))
    go true later = All-head (λ (other : Nfsace4). P other.who) ace rest each.0
    go false later = later

-- the speaker applies
pub speaker-applies : (applies : Who → Bool) (bit : ℕ) (aces : List Nfsace4) → applies Everyone ≡ true → applies (speaker applies bit aces) ≡ true
unfolding speaks
speaker-applies applies bit [] everyone = everyone
speaker-applies applies bit (ace ∷ rest) everyone =
    ap applies (speaker-cons applies bit ace rest) ∙ go (speaks applies bit ace) refl (speaker-applies applies bit rest everyone)
  where
    go : (b : Bool) → speaks applies bit ace ≡ b → applies (speaker applies bit rest) ≡ true → applies (cond b ace.who (speaker applies bit rest)) ≡ true
    go true spoken later = (and_parts (applies ace.who) (has ace.mask bit) (and_parts (decides ace) _ spoken).1).0
    go false spoken later = later

-- each entry that applies to the fewer applies to the others
abbrev pub Narrows : (Who → Bool) → (Who → Bool) → List Nfsace4 → Type 0
Narrows fewer applies aces = All (λ ace. fewer ace.who ≡ true → applies ace.who ≡ true) aces

pub same_speaker : (fewer applies : Who → Bool) (bit : ℕ) (aces : List Nfsace4) → Narrows fewer applies aces
    → fewer (speaker applies bit aces) ≡ true → allows fewer bit aces ≡ allows applies bit aces
unfolding speaks
same_speaker fewer applies bit [] narrows still = refl
same_speaker fewer applies bit (ace ∷ rest) narrows still =
    allows-cons fewer bit ace rest
    ∙ go (same_speaker fewer applies bit rest later) (speaks applies bit ace) refl (sym (ap fewer (speaker-cons applies bit ace rest)) ∙ still)
    ∙ sym (allows-cons applies bit ace rest)
  where
    here : fewer ace.who ≡ true → applies ace.who ≡ true
    here = All-head (λ (other : Nfsace4). fewer other.who ≡ true → applies other.who ≡ true) ace rest narrows

    later : Narrows fewer applies rest
    later = All-tail (λ (other : Nfsace4). fewer other.who ≡ true → applies other.who ≡ true) ace rest narrows

    speaks_too : speaks applies bit ace ≡ true → fewer ace.who ≡ true → speaks fewer bit ace ≡ true
    speaks_too spoken f =
        let parts = and_parts (decides ace) (applies ace.who && has ace.mask bit) spoken in
        let inner = and_parts (applies ace.who) (has ace.mask bit) parts.1 in
        ap₂ (λ a b. a && b) parts.0 (ap₂ (λ a b. a && b) f inner.1)

    spoke_before : speaks fewer bit ace ≡ true → speaks applies bit ace ≡ true
    spoke_before spoken =
        let parts = and_parts (decides ace) (fewer ace.who && has ace.mask bit) spoken in
        let inner = and_parts (fewer ace.who) (has ace.mask bit) parts.1 in
        ap₂ (λ a b. a && b) parts.0 (ap₂ (λ a b. a && b) (here inner.0) inner.1)

    silent : (b : Bool) → speaks fewer bit ace ≡ b → speaks applies bit ace ≡ false → b ≡ false
    silent true e not_before = absurd (true≢false (sym (spoke_before e) ∙ not_before))
    silent false e not_before = refl

    go : (fewer (speaker applies bit rest) ≡ true → allows fewer bit rest ≡ allows applies bit rest)
        → (b : Bool) → speaks applies bit ace ≡ b → fewer (cond b ace.who (speaker applies bit rest)) ≡ true
        → cond (speaks fewer bit ace) (is_allow ace.kind) (allows fewer bit rest)
        ≡ cond (speaks applies bit ace) (is_allow ace.kind) (allows applies bit rest)
    go below true e f =
        ap (λ s. cond s (is_allow ace.kind) (allows fewer bit rest)) (speaks_too e f)
        ∙ sym (ap (λ s. cond s (is_allow ace.kind) (allows applies bit rest)) e)
    go below false e f =
        ap (λ s. cond s (is_allow ace.kind) (allows fewer bit rest)) (silent (speaks fewer bit ace) refl e)
        ∙ below f
        ∙ sym (ap (λ s. cond s (is_allow ace.kind) (allows applies bit rest)) e)

-- ---- the asker of two entries

eqb-refl : (n : ℕ) → (n == n) ≡ true
eqb-refl n = eq-eqb n n refl

module _ (owner group : ℕ) (requester : Identity) where
  -- the groups that one needs for an entry to apply are the requester's, if it applies to the requester
  needed_is_own : (who : Who) (gid : ℕ) → matches owner group requester who ≡ true
      → list_any (λ own. own == gid) (option_to_list (needed_gid group who)) ≡ true → is_in_group requester gid ≡ true
  needed_is_own Owner gid is any = absurd (true≢false (sym any))
  needed_is_own Everyone gid is any = absurd (true≢false (sym any))
  needed_is_own (User uid) gid is any = absurd (true≢false (sym any))
  needed_is_own Group gid is any = subst (λ g. is_in_group requester g ≡ true) (eqb-true group gid (sym (or-false (group == gid)) ∙ any)) is
  needed_is_own (NamedGroup named) gid is any =
      subst (λ g. is_in_group requester g ≡ true) (eqb-true named gid (sym (or-false (named == gid)) ∙ any)) is

  -- an entry for an asker in no other groups is one for the requester, unless it is for the asker's uid alone
  narrower : (asker : Identity) → ((gid : ℕ) → is_in_group asker gid ≡ true → is_in_group requester gid ≡ true)
      → (entry : Who) → (needed_uid owner entry ≡ Some asker.uid → requester.uid ≡ asker.uid)
      → matches owner group asker entry ≡ true → matches owner group requester entry ≡ true
  narrower asker in_own Owner own is =
      let same = eqb-true asker.uid owner is in eq-eqb requester.uid owner (own (ap Some (sym same)) ∙ same)
  narrower asker in_own (User named) own is =
      let same = eqb-true asker.uid named is in eq-eqb requester.uid named (own (ap Some (sym same)) ∙ same)
  narrower asker in_own Everyone own is = refl
  narrower asker in_own Group own is = in_own group is
  narrower asker in_own (NamedGroup gid) own is = in_own gid is

  -- whom an entry needs, it has in the requester to whom it applies
  needs_own : (who : Who) (uid : ℕ) → matches owner group requester who ≡ true → needed_uid owner who ≡ Some uid → requester.uid ≡ uid
  needs_own Owner uid is e = eqb-true requester.uid owner is ∙ cc
  needs_own (User named) uid is e = eqb-true requester.uid named is ∙ cc
  needs_own Everyone uid is e = absurd cc
  needs_own Group uid is e = absurd cc
  needs_own (NamedGroup gid) uid is e = absurd cc

module _ (owners other_owners : Owners) where
  -- one who asks with the uid and the groups that the entries need
  abbrev pub asking : ℕ → Who → Who → Identity
  asking uid who other = record {
    uid = uid;
    gids = option_to_list (needed_gid owners.group who) ++ option_to_list (needed_gid other_owners.group other);
  }

  -- that one is in no group in which a requester isn't to whom both apply
  both_own : (requester : Identity) (uid : ℕ) (who other : Who)
      → matches owners.owner owners.group requester who ≡ true → matches other_owners.owner other_owners.group requester other ≡ true
      → (gid : ℕ) → is_in_group (asking uid who other) gid ≡ true → is_in_group requester gid ≡ true
  both_own requester uid who other is_who is_other gid any =
      elim (or_cases _ _ (sym (list_any-append (λ own. own == gid) (option_to_list (needed_gid owners.group who)) (option_to_list (needed_gid other_owners.group other))) ∙ any)) [
        | inl mine ↦ needed_is_own owners.owner owners.group requester who gid is_who mine
        | inr mine ↦ needed_is_own other_owners.owner other_owners.group requester other gid is_other mine
      ]

  -- both entries are for the asker
  module _ (uid : ℕ) where
    first_applies : (who other : Who) → ((id : ℕ) → needed_uid owners.owner who ≡ Some id → uid ≡ id)
        → matches owners.owner owners.group (asking uid who other) who ≡ true
    first_applies Owner other own = eq-eqb uid owners.owner (own owners.owner refl)
    first_applies (User named) other own = eq-eqb uid named (own named refl)
    first_applies Everyone other own = refl
    first_applies Group other own =
        ap (λ b. b || list_any (λ own. own == owners.group) (option_to_list (needed_gid other_owners.group other))) (eqb-refl owners.group)
    first_applies (NamedGroup gid) other own =
        ap (λ b. b || list_any (λ own. own == gid) (option_to_list (needed_gid other_owners.group other))) (eqb-refl gid)

    in_second : (who : Who) (gid : ℕ) → list_any (λ own. own == gid) (option_to_list (needed_gid owners.group who) ++ gid ∷ []) ≡ true
    in_second who gid =
        list_any-append (λ own. own == gid) (option_to_list (needed_gid owners.group who)) (gid ∷ [])
        ∙ ap (λ b. list_any (λ own. own == gid) (option_to_list (needed_gid owners.group who)) || (b || false)) (eqb-refl gid)
        ∙ or-true _

    second_applies : (who other : Who) → ((id : ℕ) → needed_uid other_owners.owner other ≡ Some id → uid ≡ id)
        → matches other_owners.owner other_owners.group (asking uid who other) other ≡ true
    second_applies who Owner own = eq-eqb uid other_owners.owner (own other_owners.owner refl)
    second_applies who (User named) own = eq-eqb uid named (own named refl)
    second_applies who Everyone own = refl
    second_applies who Group own = in_second who other_owners.group
    second_applies who (NamedGroup gid) own = in_second who gid

-- ---- the theorems

module _ (first second : List Nfsace4) (owners other_owners : Owners) (requester : Identity) (bit : ℕ) where
  abbrev applies : Who → Bool
  applies = matches owners.owner owners.group requester

  abbrev other_applies : Who → Bool
  other_applies = matches other_owners.owner other_owners.group requester

  abbrev pub who : Who
  who = speaker (matches owners.owner owners.group requester) bit first

  abbrev pub other : Who
  other = speaker (matches other_owners.owner other_owners.group requester) bit second

  is_who : matches owners.owner owners.group requester who ≡ true
  is_who = speaker-applies (matches owners.owner owners.group requester) bit first refl

  is_other : matches other_owners.owner other_owners.group requester other ≡ true
  is_other = speaker-applies (matches other_owners.owner other_owners.group requester) bit second refl

  in_own : (uid gid : ℕ) → is_in_group (asking owners other_owners uid who other) gid ≡ true → is_in_group requester gid ≡ true
  in_own uid = both_own owners other_owners requester uid who other is_who is_other

  -- an asker with a uid that these entries need, and that the others don't ask for unless it is the requester's, is decided
  -- like the requester
  decided_alike : (uid : ℕ)
      → ((id : ℕ) → needed_uid owners.owner who ≡ Some id → uid ≡ id) → ((id : ℕ) → needed_uid other_owners.owner other ≡ Some id → uid ≡ id)
      → All (λ ace. needed_uid owners.owner ace.who ≡ Some uid → requester.uid ≡ uid) first
      → All (λ ace. needed_uid other_owners.owner ace.who ≡ Some uid → requester.uid ≡ uid) second
      → decided_at first owners (asking owners other_owners uid who other) bit ≡ decided_at second other_owners (asking owners other_owners uid who other) bit
      → decided_at first owners requester bit ≡ decided_at second other_owners requester bit
  decided_alike uid needs_who needs_other own_first own_second alike =
      sym (same_speaker (matches owners.owner owners.group (asking owners other_owners uid who other)) applies bit first
      (λ k d inside. narrower owners.owner owners.group requester (asking owners other_owners uid who other) (in_own uid) _ (own_first k d inside))
      (first_applies owners other_owners uid who other needs_who))
      ∙ alike
      ∙ same_speaker (matches other_owners.owner other_owners.group (asking owners other_owners uid who other)) other_applies bit second
      (λ k d inside. narrower other_owners.owner other_owners.group requester (asking owners other_owners uid who other) (in_own uid) _ (own_second k d inside))
      (second_applies owners other_owners uid who other needs_other)

  -- ---- the asker's uid

  abbrev asked : ℕ → ℕ
  asked stranger = unwrap_or (needed_uid owners.owner who) (unwrap_or (needed_uid other_owners.owner other) stranger)

  asked_first : (stranger id : ℕ) → needed_uid owners.owner who ≡ Some id → asked stranger ≡ id
  asked_first stranger id e = ap (λ o. unwrap_or o (unwrap_or (needed_uid other_owners.owner other) stranger)) e

  asked_second : (stranger id : ℕ) → needed_uid other_owners.owner other ≡ Some id → asked stranger ≡ id
  asked_second stranger id e = go (needed_uid owners.owner who) refl
    where
      go : (o : Option ℕ) → needed_uid owners.owner who ≡ o → unwrap_or o (unwrap_or (needed_uid other_owners.owner other) stranger) ≡ id
      go None n = ap (λ o. unwrap_or o stranger) e
      go (Some uid) n =
          sym (needs_own owners.owner owners.group requester who uid is_who n) ∙ needs_own other_owners.owner other_owners.group requester other id is_other e

  asked_own : (stranger : ℕ) → (requester.uid ≡ asked stranger) ⊎ (asked stranger ≡ stranger)
  asked_own stranger = go (needed_uid owners.owner who) refl (needed_uid other_owners.owner other) refl
    where
      go : (a : Option ℕ) → needed_uid owners.owner who ≡ a → (b : Option ℕ) → needed_uid other_owners.owner other ≡ b
          → (requester.uid ≡ unwrap_or a (unwrap_or b stranger)) ⊎ (unwrap_or a (unwrap_or b stranger) ≡ stranger)
      go (Some uid) a b eb = inl (needs_own owners.owner owners.group requester who uid is_who a)
      go None a (Some uid) eb = inl (needs_own other_owners.owner other_owners.group requester other uid is_other eb)
      go None a None eb = inr refl

  own_among : (owner stranger : ℕ) (aces : List Nfsace4) → IsStranger (λ (ace : Nfsace4). ace.who) owner aces stranger
      → All (λ ace. needed_uid owner ace.who ≡ Some (asked stranger) → requester.uid ≡ asked stranger) aces
  own_among owner stranger aces unknown k d inside needed =
      elim (asked_own stranger) [
        | inl own ↦ own
        | inr strange ↦ absurd (unknown k d inside (needed ∙ ap Some strange))
      ]

-- who has the uid of the requester, or that of the stranger, is decided alike
abbrev pub OfEither : Identity → ℕ → (Identity → Type 0) → Identity → Type 0
OfEither requester stranger P asker = (requester.uid ≡ asker.uid) ⊎ (asker.uid ≡ stranger) → P asker

-- of the askers of pairs of entries those with the uid of a requester, or of a stranger, report whether that one is decided alike
pub pairs_suffice_for : (first second : List Nfsace4) (owners other_owners : Owners) (bits : ℕ) (requester : Identity) (stranger : ℕ)
    → IsStranger (λ (ace : Nfsace4). ace.who) owners.owner first stranger → IsStranger (λ (ace : Nfsace4). ace.who) other_owners.owner second stranger
    → AsksPairs (λ (ace : Nfsace4). ace.who) first second owners other_owners stranger (OfEither requester stranger (AlikeFor first second owners other_owners bits))
    → AlikeFor first second owners other_owners bits requester
pairs_suffice_for first second owners other_owners bits requester stranger to_first to_second each bit in_bits =
    let P : Identity → Type 0 = OfEither requester stranger (AlikeFor first second owners other_owners bits) in
    decided_alike first second owners other_owners requester bit (asked first second owners other_owners requester bit stranger)
    (asked_first first second owners other_owners requester bit stranger)
    (asked_second first second owners other_owners requester bit stranger)
    (own_among first second owners other_owners requester bit owners.owner stranger first to_first)
    (own_among first second owners other_owners requester bit other_owners.owner stranger second to_second)
    (speaker-holds
    (λ (w : Who). P (asker_for owners other_owners stranger (who first second owners other_owners requester bit) w))
    (matches other_owners.owner other_owners.group requester) bit second
    (speaker-holds
    (λ (v : Who). OfEach (λ (ace : Nfsace4). ace.who) second (λ (w : Who). P (asker_for owners other_owners stranger v w)))
    (matches owners.owner owners.group requester) bit first each)
    (asked_own first second owners other_owners requester bit stranger)
    bit in_bits)

-- what holds of each asker of a pair
module _ {E : Type 0} (of : E → Who) (first second : List E) (owners other_owners : Owners) (stranger : ℕ) where
  pub pairs_weaker : (P Q : Identity → Type 0) → ((asker : Identity) → P asker → Q asker)
      → AsksPairs of first second owners other_owners stranger P → AsksPairs of first second owners other_owners stranger Q
  pairs_weaker P Q weaker each =
      let also : (one other : Who) → P (asker_for owners other_owners stranger one other) → Q (asker_for owners other_owners stranger one other) =
      λ one other. weaker (asker_for owners other_owners stranger one other) in (
        λ k d inside. (λ j e within. also _ _ ((each.0 k d inside).0 j e within), also _ Everyone (each.0 k d inside).1),
        (λ j e within. also Everyone _ (each.1.0 j e within), also Everyone Everyone each.1.1),
      )

pub pairs_suffice : PairsSuffice
pairs_suffice first second owners other_owners bits askers requester =
    let P : Identity → Type 0 = AlikeFor first second owners other_owners bits in
    let either : (asker : Identity) → P asker → OfEither requester askers.stranger P asker = λ asker alike own. alike in
    pairs_suffice_for first second owners other_owners bits requester askers.stranger askers.to_first askers.to_second
    (pairs_weaker (λ (ace : Nfsace4). ace.who) first second owners other_owners askers.stranger P (OfEither requester askers.stranger P) either askers.each)

few_gids : (group other_group : ℕ) (who other : Who) → length (option_to_list (needed_gid group who) ++ option_to_list (needed_gid other_group other)) ≤ 2
few_gids group other_group who other = go (needed_gid group who) (needed_gid other_group other)
  where
    go : (a b : Option ℕ) → length (option_to_list a ++ option_to_list b) ≤ 2
    go None None = omega arith
    go None (Some b) = omega arith
    go (Some a) None = omega arith
    go (Some a) (Some b) = omega arith

pub two_groups_suffice : TwoGroupsSuffice
two_groups_suffice first second owners other_owners bits each requester bit in_bits =
    let v = who first second owners other_owners requester bit in
    let w = other first second owners other_owners requester bit in
    decided_alike first second owners other_owners requester bit requester.uid
    (λ id. needs_own owners.owner owners.group requester v id (is_who first second owners other_owners requester bit))
    (λ id. needs_own other_owners.owner other_owners.group requester w id (is_other first second owners other_owners requester bit))
    (λ k d inside needed. refl)
    (λ k d inside needed. refl)
    (each (asking owners other_owners requester.uid v w) (few_gids owners.group other_owners.group v w) bit in_bits)

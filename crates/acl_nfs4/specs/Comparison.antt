-- Whether two lists grant everyone the same, and which requesters decide that.
use Rattle.std.specs.Prelude.{◌≡◌, ◌≢◌, ◌≤◌, ◌==◌, ◌-◌, ℕ, Bool, false, not, ◌&&◌, ◌||◌, IsTrue}
use Rattle.std.specs.Prelude.{Option, Some, None, option_to_list, unwrap_or, List, ◌++◌, length}
use Rattle.std.specs.Prelude.{nat_le, if◌then◌else◌}
use Rattle.std.specs.List.{All, list_any}
use Rattle.acl_names.specs.Asker.{identity_of}
use Rattle.acl_names.specs.Bits.{has, ◌∪◌}
use Rattle.acl_names.specs.Requester.{Identity}
use Rattle.acl_names.specs.declared.limits.TheConstants.{NOBODY}
use Rattle.acl_nfs4.specs.Ace.{Nfsace4}
use Rattle.acl_nfs4.specs.Evaluation.{allows}
use Rattle.acl_nfs4.specs.Mask.{mask_bits}
use Rattle.acl_nfs4.specs.Who.{matches}
use Rattle.acl_nfs4.specs.declared.comparison.Difference.{Difference}
use Rattle.acl_nfs4.specs.declared.owners.Owners.{Owners}
use Rattle.acl_nfs4.specs.declared.who.Who.{Who}
use Rattle.acl_nfs4.specs.declared.who.Who.TheVariants.{Owner, Group, Everyone, User, NamedGroup}

-- whether a requester is granted a bit, by its place
abbrev pub Decider : Type 0
Decider = Identity → ℕ → Bool

-- both grant each of these bits to the same requesters, of whatever uid and groups
abbrev pub DecideAlike : Decider → Decider → ℕ → Type 0
DecideAlike before after bits = (requester : Identity) (bit : ℕ) → IsTrue (has bits bit)
    → before requester bit ≡ after requester bit

-- what a list grants on a file of this owner and this group
abbrev pub decided_by : List Nfsace4 → ℕ → ℕ → Decider
decided_by aces owner group requester bit = allows (matches owner group requester) bit aces

-- the same for these owners
abbrev pub decided_at : List Nfsace4 → Owners → Decider
decided_at aces owners = decided_by aces owners.owner owners.group

-- both lists, each for a file of its own owners, grant the requester the same of these bits
abbrev pub AlikeFor : List Nfsace4 → List Nfsace4 → Owners → Owners → ℕ → Identity → Type 0
AlikeFor first second owners other_owners bits requester =
    (bit : ℕ) → IsTrue (has bits bit) → decided_at first owners requester bit
    ≡ decided_at second other_owners requester bit

-- the only uid to which an entry applies, if there is only one
abbrev pub needed_uid : ℕ → Who → Option ℕ
needed_uid owner Owner = Some owner
needed_uid owner (User uid) = Some uid
needed_uid owner _ = None

-- the group that a requester must be in for an entry to apply, if any
abbrev pub needed_gid : ℕ → Who → Option ℕ
needed_gid group Group = Some group
needed_gid group (NamedGroup gid) = Some gid
needed_gid group _ = None

-- a requester to whom both entries apply, if both apply to anybody at once: a stranger, if neither
-- requires a uid
abbrev pub asker_for : Owners → Owners → ℕ → Who → Who → Identity
asker_for owners other_owners stranger who other = record {
  uid = unwrap_or (needed_uid owners.owner who)
      (unwrap_or (needed_uid other_owners.owner other) stranger);
  gids = option_to_list (needed_gid owners.group who)
      ++ option_to_list (needed_gid other_owners.group other);
}

-- whether an entry applies to this user alone
abbrev pub needs_user : ℕ → ℕ → Who → Bool
needs_user owner uid Owner = owner == uid
needs_user owner uid (User named) = named == uid
needs_user owner uid _ = false

-- whether one of the entries, of either style, applies to this user alone
abbrev pub asks_for : {E : Type 0} → (E → Who) → ℕ → ℕ → List E → Bool
asks_for who owner uid entries = list_any (λ entry. needs_user owner uid (who entry)) entries

-- No entry applies to this user alone. Any such user may be the stranger.
abbrev pub IsStranger : {E : Type 0} → (E → Who) → ℕ → List E → ℕ → Type 0
IsStranger who owner entries uid = All (λ entry. needed_uid owner (who entry) ≢ Some uid) entries

-- whether an entry of two lists applies to this user alone, each for a file of its own owner
abbrev pub is_needed : {E : Type 0} → (E → Who) → List E → ℕ → List E → ℕ → ℕ → Bool
is_needed who first owner second other_owner uid =
    asks_for who owner uid first || asks_for who other_owner uid second

-- one of these is this user
abbrev pub has_user : List Identity → ℕ → Bool
has_user known uid = list_any (λ one. one.uid == uid) known

-- the user is uid 0 or one of these
abbrev pub is_known : List Identity → ℕ → Bool
is_known known uid = uid == 0 || has_user known uid

-- no entry of the two lists applies to this user alone, each for a file of its own owner, and it
-- isn't a known user
pub record IsStrangerTo {E : Type 0} (who : E → Who) (first : List E) (owner : ℕ) (second : List E)
    (other_owner : ℕ) (known : List Identity) (uid : ℕ) : Type 0 where
  pub to_first : IsStranger who owner first uid
  pub to_second : IsStranger who other_owner second uid
  pub unknown : is_known known uid ≡ false

-- the users who are tried as strangers, in turn: from nobody downwards, and then upwards
abbrev pub tried : ℕ → ℕ
tried place = if nat_le place NOBODY then NOBODY - place else place

-- it holds for each who of the entries, and for everyone
abbrev pub OfEach : {E : Type 0} → (E → Who) → List E → (Who → Type 0) → Type 0
OfEach who entries P = All (λ entry. P (who entry)) entries × P Everyone

-- it holds for the requester of each pair of entries, with this stranger for all pairs
abbrev pub AsksPairs : {E : Type 0} → (E → Who) → List E → List E → Owners → Owners → ℕ
    → (Identity → Type 0) → Type 0
AsksPairs who first second owners other_owners stranger P = OfEach who first (λ one.
    OfEach who second (λ other. P (asker_for owners other_owners stranger one other)))

-- it holds for the requester of each pair of entries, with one stranger for all pairs
pub record OfEachAsker {E : Type 0} (who : E → Who) (first second : List E) (owners other_owners :
    Owners) (P : Identity → Type 0) : Type 0 where
  pub stranger : ℕ
  pub to_first : IsStranger who owners.owner first stranger
  pub to_second : IsStranger who other_owners.owner second stranger
  pub each : AsksPairs who first second owners other_owners stranger P

-- Lists that grant the same to the requester of each pair of entries grant the same to everyone,
-- each for a file of its own owners.
abbrev pub PairsSuffice : Type 0
PairsSuffice =
    (first second : List Nfsace4) (owners other_owners : Owners) (bits : ℕ)
    → OfEachAsker (λ ace. ace.who) first second owners other_owners
    (AlikeFor first second owners other_owners bits)
    → DecideAlike (decided_at first owners) (decided_at second other_owners) bits

-- Lists that grant the same to everyone in at most two groups grant the same to everyone, each for
-- a file of its own owners.
abbrev pub TwoGroupsSuffice : Type 0
TwoGroupsSuffice =
    (first second : List Nfsace4) (owners other_owners : Owners) (bits : ℕ)
    → ((requester : Identity) → length requester.gids ≤ 2
    → AlikeFor first second owners other_owners bits requester)
    → DecideAlike (decided_at first owners) (decided_at second other_owners) bits

-- of these bits, the requester loses those that are granted only before and gains those that are
-- granted only after, and there is one
pub record IsDifference (before after : Decider) (bits : ℕ) (difference : Difference) : Type 0 where
  pub lost : (bit : ℕ)
      → has (mask_bits difference.lost) bit
      ≡ (has bits bit && (before (identity_of difference.asker) bit
      && not (after (identity_of difference.asker) bit)))
  pub gained : (bit : ℕ)
      → has (mask_bits difference.gained) bit
      ≡ (has bits bit && (after (identity_of difference.asker) bit
      && not (before (identity_of difference.asker) bit)))
  pub some : mask_bits difference.lost ∪ mask_bits difference.gained ≢ 0

-- What a POSIX list grants, bit by bit, so that it can be compared with a list of either style.
use Rattle.std.specs.Prelude.{◌≡◌, ◌≢◌, ◌≤◌, ◌⊎◌, ℕ, zero, suc, ◌+◌, ◌^◌, Bool, not, List, [], ◌∷◌}
use Rattle.std.specs.Prelude.{length, if◌then◌else◌}
use Rattle.acl_names.specs.Asker.{identity_of}
use Rattle.acl_names.specs.Bits.{◌∩◌}
use Rattle.acl_names.specs.Requester.{Identity}
use Rattle.acl_posix.specs.Access.{grants}
use Rattle.acl_posix.specs.Entry.{EntryValue}
use Rattle.acl_posix.specs.Validity.{IsValid}
use Rattle.acl_nfs4.specs.Ace.{Nfsace4}
use Rattle.acl_nfs4.specs.Comparison.{Decider, DecideAlike, OfEachAsker, decided_by}
use Rattle.acl_nfs4.specs.Mask.{mask_bits, mask_of, mode_bits, read_data, write_data, execute}
use Rattle.acl_nfs4.specs.Mask.{read_permission, write_permission, execute_permission}
use Rattle.acl_nfs4.specs.Who.{who_of}
use Rattle.acl_nfs4.specs.declared.comparison.Difference.{Difference}
use Rattle.acl_nfs4.specs.declared.owners.Owners.{Owners}
use Rattle.acl_bridge.specs.declared.requests.Unlike.{Unlike}

-- the place of the permission that a bit of a file mode belongs to
abbrev pub permission_of : ℕ → ℕ
permission_of zero = read_permission
permission_of (suc zero) = write_permission
permission_of (suc (suc zero)) = write_permission
permission_of _ = execute_permission

-- what a list grants on a file of this owner and this group: a bit if it grants the bit's
-- permission alone
abbrev pub granted_by : List EntryValue → ℕ → ℕ → Decider
granted_by acl owner group requester bit = grants acl owner group requester (2 ^ permission_of bit)

-- the same for these owners
abbrev pub granted_at : List EntryValue → Owners → Decider
granted_at acl owners = granted_by acl owners.owner owners.group

-- whether a request, of however many permissions, is granted as a whole
abbrev pub Granter : Type 0
Granter = Identity → ℕ → Bool

-- what a list grants on a file of these owners
abbrev pub grants_at : List EntryValue → Owners → Granter
grants_at acl owners = grants acl owners.owner owners.group

-- the bits by which permissions are reported, one for each
abbrev pub permission_bits : ℕ
permission_bits = 2 ^ read_data + 2 ^ write_data + 2 ^ execute

-- each bit of a file mode is granted exactly if the list grants its permission
abbrev pub DecidesEachBit : List EntryValue → List Nfsace4 → Type 0
DecidesEachBit acl aces = (owner group : ℕ) → DecideAlike (granted_by acl owner group)
    (decided_by aces owner group) mode_bits

-- both grant the requester the request, or neither does
abbrev pub GrantAlike : Granter → Granter → ℕ → Identity → Type 0
GrantAlike before after request requester = before requester request ≡ after requester request

-- and so for everyone
abbrev pub GrantAlikeToAll : Granter → Granter → ℕ → Type 0
GrantAlikeToAll before after request = (requester : Identity)
    → GrantAlike before after request requester

-- Lists that grant a request, of however many permissions, to the same requesters in at most two
-- groups grant it to the same requesters, each for a file of its own owners.
abbrev pub TwoGroupsSuffice : Type 0
TwoGroupsSuffice =
    (first second : List EntryValue) → IsValid first → IsValid second
    → (owners other_owners : Owners) (request : ℕ)
    → ((requester : Identity) → length requester.gids ≤ 2
    → GrantAlike (grants_at first owners) (grants_at second other_owners) request requester)
    → GrantAlikeToAll (grants_at first owners) (grants_at second other_owners) request

-- Lists that both grant a request, of however many permissions, or both don't, for the requester of
-- each pair of entries do so for everyone, each for a file of its own owners.
abbrev pub PairsSuffice : Type 0
PairsSuffice =
    (first second : List EntryValue) → IsValid first → IsValid second
    → (owners other_owners : Owners) (request : ℕ)
    → OfEachAsker (λ entry. who_of entry.tag) first second owners other_owners
    (GrantAlike (grants_at first owners) (grants_at second other_owners) request)
    → GrantAlikeToAll (grants_at first owners) (grants_at second other_owners) request

-- one grants the requester the request, and the other doesn't
pub record IsUnlike (first second : Granter) (request : ℕ) (unlike : Unlike) : Type 0 where
  pub before : first (identity_of unlike.asker) request ≡ unlike.before
  pub after : second (identity_of unlike.asker) request ≡ not unlike.before

-- the requests of more than one permission, in the order in which they are compared: rw, rx, wx,
-- rwx
abbrev pub whole_requests : List ℕ
whole_requests = 6 ∷ 5 ∷ 3 ∷ 7 ∷ []

-- the bits by which a request is reported
abbrev pub mask_for : ℕ → ℕ
mask_for request = mask_of request ∩ permission_bits

-- the requester is granted the request before or after, and not both: it is lost as a whole, or
-- gained
pub record IsWholeDifference (before after : Granter) (request : ℕ) (difference : Difference) : Type
    0 where
  pub apart : before (identity_of difference.asker) request
      ≢ after (identity_of difference.asker) request
  pub lost : mask_bits difference.lost ≡ (if before (identity_of difference.asker) request
      then mask_for request else 0)
  pub gained : mask_bits difference.gained ≡ (if after (identity_of difference.asker) request
      then mask_for request else 0)

-- the difference is in the first of the requests that isn't granted to the same requesters
abbrev pub IsFirstDifference : Granter → Granter → List ℕ → Difference → Type 0
IsFirstDifference before after [] difference = ⊥
IsFirstDifference before after (request ∷ more) difference =
    IsWholeDifference before after request difference
    ⊎ (GrantAlikeToAll before after request × IsFirstDifference before after more difference)

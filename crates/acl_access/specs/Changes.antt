-- What somebody, or anybody else, loses or gains between the lists of two files.
use Rattle.std.specs.Prelude.{◌≡◌, ◌≢◌, ◌≤◌, ◌⊎◌, ⊤, ℕ, false, not, ◌&&◌, IsTrue, List, [], ◌∷◌}
use Rattle.std.specs.Prelude.{length}
use Rattle.std.specs.Prelude.{Option, MatchOption, if◌then◌else◌}
use Rattle.std.specs.List.{AllByRecursion}
use Rattle.acl_names.specs.Asker.{identity_of}
use Rattle.acl_names.specs.Bits.{has, ◌∪◌}
use Rattle.acl_names.specs.Requester.{Identity}
use Rattle.acl_posix.specs.Validity.{IsValid}
use Rattle.acl_nfs4.specs.Comparison.{Decider, is_known}
use Rattle.acl_nfs4.specs.Mask.{mask_bits}
use Rattle.acl_nfs4.specs.declared.comparison.Difference.{Difference}
use Rattle.acl_bridge.specs.Comparison.{Granter, mask_for}
use Rattle.acl_bridge.specs.Files.{File, decider_of, may}
use Rattle.acl_bridge.specs.Lists.{bits_between, requests_between}
use Rattle.acl_bridge.specs.declared.any_acl.AnyAcl.{AnyAcl}
use Rattle.acl_bridge.specs.declared.any_acl.AnyAcl.TheVariants.{Posix, Nfs4}
use Rattle.acl_access.specs.declared.changes.Change.{Change}

-- the lists are valid
abbrev pub AreValid : AnyAcl → Type 0
AreValid (Posix acl) = IsValid acl
AreValid (Nfs4 acl) = ⊤

-- both grant the requester the same of these bits
abbrev pub BitsAlikeTo : Decider → Decider → ℕ → Identity → Type 0
BitsAlikeTo before after bits requester = (bit : ℕ) → IsTrue (has bits bit)
    → before requester bit ≡ after requester bit

-- both grant the requester the same of these requests
abbrev pub RequestsAlikeTo : Granter → Granter → List ℕ → Identity → Type 0
RequestsAlikeTo before after requests requester =
    AllByRecursion (λ request. before requester request ≡ after requester request) requests

-- the requester is granted the same before and after
pub record IsAlikeTo (before after : File) (requester : Identity) : Type 0 where
  pub bits : BitsAlikeTo (decider_of before) (decider_of after)
      (bits_between before.list after.list) requester
  pub requests : RequestsAlikeTo (may before) (may after)
      (requests_between before.list after.list) requester

-- and so is everyone, of whatever uid and groups
abbrev pub IsAlikeToAll : File → File → Type 0
IsAlikeToAll before after = (requester : Identity) → IsAlikeTo before after requester

-- of these bits, the requester loses what is granted only before and gains what is granted only
-- after, and there is one
pub record ChangesBits (before after : Decider) (bits : ℕ) (requester : Identity) (change : Change)
    : Type 0 where
  pub lost : (bit : ℕ) → has (mask_bits change.lost) bit
      ≡ (has bits bit && (before requester bit && not (after requester bit)))
  pub gained : (bit : ℕ) → has (mask_bits change.gained) bit
      ≡ (has bits bit && (after requester bit && not (before requester bit)))
  pub some : mask_bits change.lost ∪ mask_bits change.gained ≢ 0

-- the requester loses the request as a whole, or gains it
pub record ChangesRequest (before after : Granter) (request : ℕ) (requester : Identity)
    (change : Change) : Type 0 where
  pub apart : before requester request ≢ after requester request
  pub lost : mask_bits change.lost ≡ (if before requester request then mask_for request else 0)
  pub gained : mask_bits change.gained ≡ (if after requester request then mask_for request else 0)

-- it is the first of the requests that is granted only before or only after
abbrev pub ChangesFirst : Granter → Granter → List ℕ → Identity → Change → Type 0
ChangesFirst before after [] requester change = ⊥
ChangesFirst before after (request ∷ more) requester change =
    ChangesRequest before after request requester change
    ⊎ ((before requester request ≡ after requester request)
    × ChangesFirst before after more requester change)

-- what the requester loses and gains: bits, or if these stay the same a whole request
abbrev pub IsChangeFor : File → File → Identity → Change → Type 0
IsChangeFor before after requester change =
    ChangesBits (decider_of before) (decider_of after) (bits_between before.list after.list)
    requester change
    ⊎ (BitsAlikeTo (decider_of before) (decider_of after) (bits_between before.list after.list)
    requester
    × ChangesFirst (may before) (may after) (requests_between before.list after.list) requester
    change)

-- what the requester of a difference loses and gains
abbrev pub change_of : Difference → Change
change_of difference = record { lost = difference.lost; gained = difference.gained }

-- everybody else is granted the same: everybody, of whatever uid and groups, but uid 0 and those
-- who are known
abbrev pub AreOthersAlike : List Identity → File → File → Type 0
AreOthersAlike known before after = (requester : Identity) → is_known known requester.uid ≡ false
    → IsAlikeTo before after requester

-- the requester of a difference is somebody else, and loses and gains this
pub record IsSomebody (known : List Identity) (before after : File) (difference : Difference)
    : Type 0 where
  pub unknown : is_known known difference.asker.uid ≡ false
  pub change : IsChangeFor before after (identity_of difference.asker) (change_of difference)

-- the result of a search among everybody else: nobody, if everybody else is granted the same; or
-- somebody who isn't
abbrev pub FindsAnybody : List Identity → File → File → Option Difference → Type 0
FindsAnybody known before after found =
    MatchOption found (AreOthersAlike known before after) (IsSomebody known before after)

-- Files that grant the same to everyone in at most two groups grant the same to everyone.
abbrev pub TwoGroupsSuffice : Type 0
TwoGroupsSuffice =
    (before after : File) → AreValid before.list → AreValid after.list
    → ((requester : Identity) → length requester.gids ≤ 2 → IsAlikeTo before after requester)
    → IsAlikeToAll before after

-- What somebody loses or gains contradicts that everyone is granted the same: of the two findings
-- at most one is right.
abbrev pub ChangesAreNotAlike : Type 0
ChangesAreNotAlike =
    (before after : File) (requester : Identity) (change : Change)
    → IsAlikeTo before after requester → IsChangeFor before after requester change → ⊥

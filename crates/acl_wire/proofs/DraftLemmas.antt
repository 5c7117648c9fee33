-- Drafts with room for few entries.
use Rattle.std.proofs.Common.{◌≡◌, ◌⊎◌, ◌+◌, ◌*◌, ◌≤◌, ◌<◌, ℕ, leb, List, length, Ok, arith, inl, inr}
use Rattle.std.proofs.lemmas.Bool.{cases_Bool, leb-true}
use Rattle.acl_nfs4.specs.Ace.{Nfsace4}
use Rattle.acl_nfs4.specs.declared.limits.TheConstants.{MAX_ACES}
use Rattle.acl_wire.specs.ModeChange.{IsDraftFor}
use Rattle.acl_wire.specs.RawAces.{list_of}
use Rattle.acl_wire.specs.declared.raw_ace.Purpose.TheVariants.{Decide}
use Rattle.acl_wire.specs.declared.raw_ace.RawAce.{RawAce}

-- what a draft has no room for is more than a list may have
pub beyond : (room count len : ℕ) → IsDraftFor room count → len ≤ 3 * count + 5 → room < len → MAX_ACES < len
beyond room count len draft few full = elim draft.1 [
  | inl enough ↦ absurd (omega (arith, enough, few, full))
  | inr whole ↦ omega (arith, whole, full)
]

-- what is read is a list
read-few : (raws : List RawAce) (aces : List Nfsace4) → list_of Decide raws ≡ Ok aces → length raws ≤ MAX_ACES
read-few raws aces is = elim (cases_Bool (leb (length raws) MAX_ACES)) [
  | inl few ↦ leb-true (length raws) MAX_ACES few
  | inr many ↦ let wrong = rw many at is in cc
]

-- so it has room where there is room for the most that a list has
pub fits-in : (room : ℕ) (raws : List RawAce) (aces : List Nfsace4) → (length raws ≤ room) ⊎ (room ≡ MAX_ACES) → list_of Decide raws ≡ Ok aces → length raws ≤ room
fits-in room raws aces either is = elim either [
  | inl enough ↦ enough
  | inr whole ↦ omega (arith, whole, read-few raws aces is)
]

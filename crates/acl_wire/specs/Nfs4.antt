-- What is asked of NFSv4 lists as numbers.
use Rattle.std.specs.Prelude.{◌≡◌, ◌&&◌, ℕ, Bool, List, nat_le}
use Rattle.acl_names.specs.Bits.{has}
use Rattle.acl_names.specs.Requester.{Identity}
use Rattle.acl_names.specs.declared.limits.TheConstants.{MAX_ID}
use Rattle.acl_nfs4.specs.Ace.{Nfsace4}
use Rattle.acl_nfs4.specs.Evaluation.{allows}
use Rattle.acl_nfs4.specs.Who.{matches}

-- of the bits of a request, those that a list allows
abbrev pub IsAllowed : List Nfsace4 → ℕ → ℕ → Identity → ℕ → ℕ → Type 0
IsAllowed aces owner group requester request allowed = (bit : ℕ) → has allowed bit
    ≡ (has request bit && allows (matches owner group requester) bit aces)

-- whether the numbers of a check are ids
abbrev pub are_ids : ℕ → ℕ → ℕ → Bool
are_ids owner group uid = nat_le owner MAX_ID && nat_le group MAX_ID && nat_le uid MAX_ID

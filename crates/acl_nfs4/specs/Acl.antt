-- Lists of entries: the limit on their length, and the entries that one may have.
use Rattle.std.specs.Prelude.{◌≡◌, ◌<◌, ◌≤◌, ℕ, false, List, length, All}
use Rattle.acl_nfs4.specs.Ace.{Nfsace4, IsAce, is_idle}
use Rattle.acl_nfs4.specs.declared.limits.TheConstants.{MAX_ACES}
use Rattle.acl_nfs4.specs.declared.acl.AceFault.{AceFault}
use Rattle.acl_nfs4.specs.declared.acl.AceFault.TheVariants.{Syntax, UnknownName, TooMany}
use Rattle.acl_nfs4.specs.declared.acl.AceFault.TheVariants.{InheritOnly, Memory}

-- each has an effect on the file itself or on what inherits it
abbrev pub HaveEffect : List Nfsace4 → Type 0
HaveEffect aces = All (λ ace. is_idle ace ≡ false) aces

pub record AreAces (aces : List Nfsace4) : Type 0 where
  pub within : length aces ≤ MAX_ACES
  pub each : All IsAce aces
  pub effective : HaveEffect aces

-- more entries than so many
abbrev pub IsTooLong : ℕ → List Nfsace4 → Type 0
IsTooLong most aces = most < length aces

-- a list under construction, with so many places inline: it has the entries of a list, and room for
-- as many as it has places
pub record IsDraft (places : ℕ) (aces : List Nfsace4) (room : ℕ) : Type 0 where
  pub are_aces : AreAces aces
  pub has_room : places ≤ room
  pub places_within : places ≤ MAX_ACES

-- what a push can be refused for
abbrev pub IsPushFault : AceFault → Type 0
IsPushFault Syntax = ⊥
IsPushFault UnknownName = ⊥
IsPushFault TooMany = Unit {0}
IsPushFault InheritOnly = Unit {0}
IsPushFault Memory = Unit {0}

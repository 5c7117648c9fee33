-- Entries of numbers with all their bits, from which others are made.
use Rattle.std.specs.Prelude.{◌==◌, List, [], ◌∷◌, Result, Ok, if◌then◌else◌}
use Rattle.acl_names.specs.Steps.{◌>>=◌}
use Rattle.acl_nfs4.specs.Ace.{Nfsace4}
use Rattle.acl_wire.specs.RawAces.{list_of}
use Rattle.acl_wire.specs.Written.{tidied_raw}
use Rattle.acl_wire.specs.declared.fault.Nfs4Fault.{Nfs4Fault}
use Rattle.acl_wire.specs.declared.raw_ace.Purpose.TheVariants.{Decide}
use Rattle.acl_wire.specs.declared.raw_ace.RawAce.{RawAce}

-- the entry of these numbers with all bits that have a meaning
abbrev pub kept_ace : RawAce → Nfsace4 → Nfsace4
kept_ace raw ace = record ace { flags = (tidied_raw raw).flags; mask = raw.mask }

-- each entry so
unfoldable pub kept_aces : List RawAce → List Nfsace4 → List Nfsace4
kept_aces [] aces = []
kept_aces (raw ∷ raws) [] = []
kept_aces (raw ∷ raws) (ace ∷ aces) = kept_ace raw ace ∷ kept_aces raws aces

-- the numbers of an entry, unless its mask is empty
unfoldable pub raw_unless_empty : RawAce → List RawAce
raw_unless_empty raw = if raw.mask == 0 then [] else raw ∷ []

-- the list that is decided by, with all bits
abbrev pub kept_list : List RawAce → Result (List Nfsace4) Nfs4Fault
kept_list raws = list_of Decide raws >>= λ aces. Ok (kept_aces raws aces)

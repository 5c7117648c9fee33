-- Private steps, which no public clause cites: a request that is decided entry by entry.
use Rattle.std.specs.Prelude.{◌&&◌, ◌==◌, Bool, List, [], ◌∷◌, Result, Ok, if◌then◌else◌}
use Rattle.acl_names.specs.Bits.{without, ◌∩◌, ◌∪◌}
use Rattle.acl_names.specs.Steps.{◌>>=◌}
use Rattle.acl_nfs4.specs.Ace.{Nfsace4, decides, is_allow}
use Rattle.acl_nfs4.specs.declared.who.Who.{Who}
use Rattle.acl_wire.specs.Decision.{value_of}
use Rattle.acl_wire.specs.declared.decision.Found.{Found}
use Rattle.acl_wire.specs.declared.fault.Nfs4Fault.{Nfs4Fault}
use Rattle.acl_wire.specs.declared.raw_ace.RawAce.{RawAce}

-- what was found, with an entry more that concerns whoever asks
abbrev pub with_word : Found → Nfsace4 → Found
with_word found ace = record {
  allowed = if is_allow ace.kind then found.allowed ∪ found.left ∩ ace.mask else found.allowed;
  left = without found.left ace.mask;
}

module _ (applies : Who → Bool) where
  -- and with any
  unfoldable pub with_ace : Found → Nfsace4 → Found
  with_ace found ace = if decides ace && applies ace.who then with_word found ace else found

  -- what is found of entries, until nothing is open
  unfoldable pub goes_on : Found → List RawAce → Result Found Nfs4Fault
  goes_on found [] = Ok found
  goes_on found (raw ∷ raws) =
      if found.left == 0 then Ok found
      else value_of raw >>= λ ace. goes_on (with_ace found ace) raws

-- NFSv4 lists as they are written in XDR.
use Rattle.std.specs.Prelude.{ℕ, ◌-◌, ◌^◌, List, [], ◌∷◌, ◌++◌, length, replicate, codes, decimal}
use Rattle.std.specs.Prelude.{Result, Ok, Err, nat_lt, if◌then◌else◌}
use Rattle.std.specs.Int.{w32, to_be_bytes}
use Rattle.std.specs.List.{flat_map}
use Rattle.acl_names.specs.Steps.{◌>>=◌}
use Rattle.acl_nfs4.specs.Ace.{Nfsace4}
use Rattle.acl_nfs4.specs.declared.who.Who.{Who}
use Rattle.acl_nfs4.specs.declared.who.Who.TheVariants.{Owner, Group, Everyone, User, NamedGroup}
use Rattle.acl_wire.specs.Decision.{value_of}
use Rattle.acl_wire.specs.Kept.{kept_ace}
use Rattle.acl_wire.specs.RawAcesWriting.{kind_number}
use Rattle.acl_wire.specs.Xdr.{padded}
use Rattle.acl_wire.specs.declared.fault.Nfs4Fault.{Nfs4Fault}
use Rattle.acl_wire.specs.declared.fault.Nfs4Fault.TheVariants as faults
use Rattle.acl_wire.specs.declared.raw_ace.RawAce.{RawAce}

-- one of the three, or the id in decimal
abbrev pub who_text : Who → List ℕ
who_text Owner = codes "OWNER@"
who_text Group = codes "GROUP@"
who_text Everyone = codes "EVERYONE@"
who_text (User uid) = decimal uid
who_text (NamedGroup gid) = decimal gid

-- the bytes of a string, and zeros up to a whole group of four
abbrev pub filled : List ℕ → List ℕ
filled text = text ++ replicate (padded (length text) - length text) 0

-- a string: how many bytes, and these
abbrev pub text_bytes : List ℕ → List ℕ
text_bytes text = to_be_bytes w32 (length text) ++ filled text

abbrev pub ace_bytes : Nfsace4 → List ℕ
ace_bytes ace = to_be_bytes w32 (kind_number ace.kind) ++ (to_be_bytes w32 ace.flags
    ++ (to_be_bytes w32 ace.mask ++ text_bytes (who_text ace.who)))

abbrev pub xdr_of : List Nfsace4 → List ℕ
xdr_of aces = to_be_bytes w32 (length aces) ++ flat_map ace_bytes aces

-- the bytes of entries of numbers, each of which can be decided by
unfoldable pub raws_bytes : List RawAce → Result (List ℕ) Nfs4Fault
raws_bytes [] = Ok []
raws_bytes (raw ∷ raws) = do
  ace ← value_of raw
  others ← raws_bytes raws
  Ok (ace_bytes (kept_ace raw ace) ++ others)

-- behind what stands in front
abbrev pub behind : List ℕ → Result (List ℕ) Nfs4Fault → Result (List ℕ) Nfs4Fault
behind front bytes = bytes >>= λ more. Ok (front ++ more)

-- the list of these entries in XDR
unfoldable pub raws_xdr_of : List RawAce → Result (List ℕ) Nfs4Fault
raws_xdr_of raws =
    if nat_lt (length raws) (2 ^ 32)
    then behind (to_be_bytes w32 (length raws)) (raws_bytes raws)
    else Err faults.TooMany

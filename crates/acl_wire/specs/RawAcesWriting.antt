-- An NFSv4 entry as numbers.
use Rattle.std.specs.Prelude.{ℕ, List, map}
use Rattle.acl_nfs4.specs.Ace.{Nfsace4}
use Rattle.acl_nfs4.specs.Who.{id_of}
use Rattle.acl_nfs4.specs.declared.ace.AceType.{AceType}
use Rattle.acl_nfs4.specs.declared.ace.AceType.TheVariants.{Allow, Deny, Audit, Alarm}
use Rattle.acl_nfs4.specs.declared.who.Who.{Who}
use Rattle.acl_nfs4.specs.declared.who.Who.TheVariants.{Owner, Group, Everyone, User, NamedGroup}
use Rattle.acl_wire.specs.declared.raw_ace.RawAce.{RawAce}

abbrev pub kind_number : AceType → ℕ
kind_number Allow = 0
kind_number Deny = 1
kind_number Audit = 2
kind_number Alarm = 3

-- 0 for whom an id names
abbrev pub special_number : Who → ℕ
special_number Owner = 1
special_number Group = 2
special_number Everyone = 3
special_number (User uid) = 0
special_number (NamedGroup gid) = 0

abbrev pub raw_of : Nfsace4 → RawAce
raw_of ace = record {
  kind = kind_number ace.kind;
  flags = ace.flags;
  mask = ace.mask;
  special = special_number ace.who;
  id = id_of ace.who;
}

abbrev pub raws_of : List Nfsace4 → List RawAce
raws_of = map raw_of

-- What is written is read again.
use Rattle.std.specs.Prelude.{◌≡◌, ◌<◌, ◌^◌, ℕ, List, Ok, map}
use Rattle.std.specs.List.{All}
use Rattle.acl_nfs4.specs.Ace.{Nfsace4}
use Rattle.acl_nfs4.specs.Acl.{AreAces}
use Rattle.acl_nfs4.specs.PrintedText as nfs4
use Rattle.acl_posix.specs.Canonical.{IsAcl}
use Rattle.acl_posix.specs.Entry.{EntryValue}
use Rattle.acl_posix.specs.PrintedText as posix
use Rattle.acl_wire.specs.Posix.{acl_of}
use Rattle.acl_wire.specs.RawAces.{list_of}
use Rattle.acl_wire.specs.RawAcesWriting.{raws_of}
use Rattle.acl_wire.specs.Written.{tidied_raw}
use Rattle.acl_wire.specs.Xattr.{xattr_of}
use Rattle.acl_wire.specs.Xdr.{xdr_list_of}
use Rattle.acl_wire.specs.XdrRaws.{xdr_raws_of}
use Rattle.acl_wire.specs.XdrWriting.{raws_xdr_of, xdr_of}
use Rattle.acl_wire.specs.declared.raw_ace.Purpose.{Purpose}
use Rattle.acl_wire.specs.declared.raw_ace.RawAce.{RawAce}

-- the bytes of a POSIX list are read as that list
abbrev pub XattrsAreReadAgain : Type 0
XattrsAreReadAgain = (acl : List EntryValue) → IsAcl acl → posix.HaveIds acl
    → acl_of (xattr_of acl) ≡ Ok acl

-- the numbers of an NFSv4 list are read as that list, for whatever purpose
abbrev pub RawsAreReadAgain : Type 0
RawsAreReadAgain = (purpose : Purpose) (aces : List Nfsace4) → AreAces aces → nfs4.HaveIds aces
    → list_of purpose (raws_of aces) ≡ Ok aces

-- a list in XDR is read as that list
abbrev pub XdrIsReadAgain : Type 0
XdrIsReadAgain = (aces : List Nfsace4) → AreAces aces → nfs4.HaveIds aces
    → xdr_list_of (xdr_of aces) ≡ Ok aces

-- an entry of numbers of 32 bits
pub record IsNumbers (raw : RawAce) : Type 0 where
  pub flags : raw.flags < 2 ^ 32
  pub mask : raw.mask < 2 ^ 32

-- entries of numbers that are written in XDR are read as these, less what plays no part: no bit
-- that has a meaning is lost
abbrev pub KeptXdrIsReadAgain : Type 0
KeptXdrIsReadAgain = (raws : List RawAce) (bytes : List ℕ) → All IsNumbers raws
    → raws_xdr_of raws ≡ Ok bytes → xdr_raws_of bytes ≡ Ok (map tidied_raw raws)

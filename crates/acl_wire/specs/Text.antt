-- Lists as texts, with ids in decimal.
use Rattle.std.specs.Prelude.{ℕ, List, [], Result, Ok, codes}
use Rattle.acl_names.specs.Directory.{AnswersAs, Known}
use Rattle.acl_names.specs.Steps.{◌>>=◌}
use Rattle.acl_nfs4.specs.PrintedText as nfs4
use Rattle.acl_posix.specs.PrintedText as posix
use Rattle.acl_wire.specs.Posix.{acl_of}
use Rattle.acl_wire.specs.RawAces.{list_of}
use Rattle.acl_wire.specs.declared.fault.Nfs4Fault.{Nfs4Fault}
use Rattle.acl_wire.specs.declared.fault.PosixFault.{PosixFault}
use Rattle.acl_wire.specs.declared.raw_ace.Purpose.TheVariants.{Write}
use Rattle.acl_wire.specs.declared.raw_ace.RawAce.{RawAce}

-- there are no users and no groups
abbrev pub IsNobody : Known → Type 0
IsNobody known = AnswersAs known (record { domain = codes "local"; users = []; groups = [] })

unfoldable pub xattr_text_of : List ℕ → Result (List ℕ) PosixFault
xattr_text_of bytes = acl_of bytes >>= λ acl. Ok (posix.short_text acl)

unfoldable pub raws_text_of : List RawAce → Result (List ℕ) Nfs4Fault
raws_text_of raws = list_of Write raws >>= λ aces. Ok (nfs4.short_text aces)

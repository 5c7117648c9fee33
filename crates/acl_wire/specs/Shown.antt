-- The mode that entries of numbers show (RFC 8881, section 6.3.2).
use Rattle.std.specs.Prelude.{◌≡◌, ℕ, ◌^◌, Bool, ◌&&◌, List, Result, Ok, Err, if◌then◌else◌}
use Rattle.acl_names.specs.Bits.{has, ◌∪◌}
use Rattle.acl_names.specs.Steps.{◌>>=◌}
use Rattle.acl_nfs4.specs.Ace.{Nfsace4}
use Rattle.acl_nfs4.specs.Evaluation.{mode_of, shown_to}
use Rattle.acl_nfs4.specs.Mask.{append_data, execute, execute_permission, read_data}
use Rattle.acl_nfs4.specs.Mask.{read_permission, write_data, write_permission}
use Rattle.acl_nfs4.specs.declared.who.Who.{Who}
use Rattle.acl_posix.specs.Mode.{Classes}
use Rattle.acl_posix.specs.Perms.{bits_of}
use Rattle.acl_posix.specs.declared.perms.Perms.{Perms}
use Rattle.acl_wire.specs.Decision.{values_of}
use Rattle.acl_wire.specs.declared.fault.Nfs4Fault.{Nfs4Fault}
use Rattle.acl_wire.specs.declared.raw_ace.RawAce.{RawAce}

-- the permissions that these bits of a mask stand for
abbrev pub perms_shown : ℕ → ℕ
perms_shown allowed =
    (if has allowed read_data then 2 ^ read_permission else 0)
    ∪ (if has allowed write_data && has allowed append_data then 2 ^ write_permission else 0)
    ∪ (if has allowed execute then 2 ^ execute_permission else 0)

-- an answer is what the list shows for those to whom entries apply
abbrev pub IsShown : (Who → Bool) → List Nfsace4 → Result Perms Nfs4Fault → Type 0
IsShown applies aces (Ok perms) = bits_of perms ≡ shown_to applies aces
IsShown applies aces (Err fault) = ⊥

-- the mode that the entries show
unfoldable pub mode_shown : List RawAce → Result Classes Nfs4Fault
mode_shown raws = values_of raws >>= λ aces. Ok (mode_of aces)

-- Private steps, which no public clause cites.
use Rattle.std.specs.Prelude.{◌≡◌, ◌⊎◌, ⊤, ℕ, List, if◌then◌else◌}
use Rattle.acl_names.specs.Bits.{◌∪◌}
use Rattle.acl_names.specs.Requester.{Identity}
use Rattle.acl_nfs4.specs.Mask.{mode_bits}
use Rattle.acl_posix.specs.Access.{grants}
use Rattle.acl_posix.specs.Entry.{EntryValue}
use Rattle.acl_bridge.specs.Comparison.{permission_bits}
use Rattle.acl_bridge.specs.declared.any_acl.AnyAcl.{AnyAcl}
use Rattle.acl_bridge.specs.declared.any_acl.AnyAcl.TheVariants.{Posix, Nfs4}

-- the permission, if the list grants it by itself
abbrev pub if_granted : List EntryValue → ℕ → ℕ → Identity → ℕ → ℕ
if_granted acl owner group requester perm = if grants acl owner group requester perm then perm
    else 0

-- the permissions that the list grants, each by itself
abbrev pub granted_alone : List EntryValue → ℕ → ℕ → Identity → ℕ
granted_alone acl owner group requester =
    if_granted acl owner group requester 4 ∪ if_granted acl owner group requester 2
    ∪ if_granted acl owner group requester 1

-- a POSIX list is compared only in bits of a file mode
abbrev pub IsComparedIn : AnyAcl → ℕ → Type 0
IsComparedIn (Posix acl) bits = (bits ≡ mode_bits) ⊎ (bits ≡ permission_bits)
IsComparedIn (Nfs4 acl) bits = ⊤

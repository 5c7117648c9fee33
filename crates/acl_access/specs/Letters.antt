-- What a file grants somebody, letter by letter.
use Rattle.std.specs.Prelude.{◌≡◌, ℕ, zero, suc, ◌^◌, ◌&&◌, Bool, List, if◌then◌else◌}
use Rattle.acl_names.specs.Bits.{◌∪◌, has}
use Rattle.acl_names.specs.Requester.{Identity}
use Rattle.acl_forms.specs.Marks.{perm_table}
use Rattle.acl_forms.specs.PrintedForm.{marks_text}
use Rattle.acl_forms.specs.declared.printing.Places.TheVariants.{Full}
use Rattle.acl_nfs4.specs.Mask.{all_masks, mask_of, mode_bits}
use Rattle.acl_posix.specs.Entry.{EntryValue}
use Rattle.acl_bridge.specs.Files.{File, decider_of, may}
use Rattle.acl_bridge.specs.declared.any_acl.AnyAcl.{AnyAcl}
use Rattle.acl_bridge.specs.declared.any_acl.AnyAcl.TheVariants.{Posix, Nfs4}

-- the permission, if it is granted by itself
abbrev pub if_may : File → Identity → ℕ → ℕ
if_may file requester perm = if may file requester perm then perm else 0

-- the letters that are granted, each by itself: 4 to read, 2 to write, 1 to execute
abbrev pub effective : File → Identity → ℕ
effective file requester = if_may file requester 4 ∪ if_may file requester 2
    ∪ if_may file requester 1

-- which bits of a mask a list decides: a POSIX list those of a file mode, an NFSv4 list all
abbrev pub decided_bits : AnyAcl → ℕ
decided_bits (Posix acl) = mode_bits
decided_bits (Nfs4 acl) = all_masks

-- whether the bit is granted by itself: to write is both to write within a file and after its end
abbrev pub grants_bit : File → Identity → ℕ → Bool
grants_bit file requester bit = has (decided_bits file.list) bit && decider_of file requester bit

-- the bits, of so many, for which the test passes
unfoldable pub bits_where : (ℕ → Bool) → ℕ → ℕ
bits_where test zero = 0
bits_where test (suc bit) = bits_where test bit ∪ (if test bit then 2 ^ bit else 0)

-- the bits of a mask, which has 32, that a file's list grants, each by itself
abbrev pub granted_mask : File → Identity → ℕ
granted_mask file requester = bits_where (grants_bit file requester) 32

-- the fourteen letters of a mask, each in its place, or a hyphen: rwxpdDaARWcCos
abbrev pub mask_text : ℕ → List ℕ
mask_text = marks_text Full perm_table

-- a bit is in the mask exactly if it is granted by itself
abbrev pub BitsAreGranted : Type 0
BitsAreGranted =
    (file : File) (requester : Identity) (bit : ℕ)
    → has (granted_mask file requester) bit ≡ grants_bit file requester bit

-- for a POSIX list it has the bits that the letters r, w and x mean, each by itself
abbrev pub LettersStandForBits : Type 0
LettersStandForBits =
    (file : File) (requester : Identity) (acl : List EntryValue) → file.list ≡ Posix acl
    → granted_mask file requester ≡ mask_of (effective file requester)

-- Which access control list the pieces of a text spell, and else what is wrong with them.
use Rattle.std.specs.Prelude.{◌≡◌, ℕ, List, Result, Ok, Err, codes, is_none, if◌then◌else◌}
use Rattle.acl_names.specs.Directory.{Known}
use Rattle.acl_names.specs.ListText.{Spells}
use Rattle.acl_names.specs.Names.{Names, names_of}
use Rattle.acl_names.specs.ReadList.{at_most_read}
use Rattle.acl_names.specs.Steps.{◌>>=◌, map_fault}
use Rattle.acl_posix.specs.Entry.{EntryValue}
use Rattle.acl_posix.specs.EntryText.{entry_by}
use Rattle.acl_posix.specs.InOrder.{in_order}
use Rattle.acl_posix.specs.Validity.{IsValid, fault_of}
use Rattle.acl_posix.specs.declared.acl.Invalid.{Invalid}
use Rattle.acl_posix.specs.declared.acl.Invalid.TheVariants as invalid
use Rattle.acl_posix.specs.declared.acl_text.AclFault.{AclFault}
use Rattle.acl_posix.specs.declared.acl_text.AclFault.TheVariants.{BadAcl, UnknownName, TooMany}
use Rattle.acl_posix.specs.declared.acl_text.AclFault.TheVariants.{InvalidAcl}
use Rattle.acl_posix.specs.declared.acl_text.ReadAclFault.{ReadAclFault}
use Rattle.acl_posix.specs.declared.acl_text.ReadAclFault.TheVariants.{Acl, Memory}
use Rattle.acl_posix.specs.declared.entries.TextFault.{TextFault}
use Rattle.acl_posix.specs.declared.entries.TextFault.TheVariants as text
use Rattle.acl_posix.specs.declared.limits.TheConstants.{MAX_ENTRIES}
use Rattle.acl_posix.specs.declared.reading.PieceFault.{PieceFault}
use Rattle.acl_posix.specs.declared.reading.PieceFault.TheVariants as piece

-- a faulty piece, as the fault of the list
abbrev pub piece_fault : PieceFault → AclFault
piece_fault piece.Syntax = BadAcl
piece_fault piece.UnknownName = UnknownName

-- the entry that a piece says
abbrev pub entry_in : (List ℕ → Result EntryValue PieceFault) → List ℕ
    → Result EntryValue AclFault
entry_in said piece = map_fault piece_fault (said piece)

-- the entries that pieces say, at most 64
abbrev pub entries_of : (List ℕ → Result EntryValue PieceFault) → List (List ℕ)
    → Result (List EntryValue) AclFault
entries_of said pieces = at_most_read TooMany MAX_ENTRIES (entry_in said) pieces

-- the access control list of these entries
abbrev pub acl_of_entries : List EntryValue → Result (List EntryValue) AclFault
acl_of_entries entries =
    if is_none (fault_of entries) then Ok (in_order entries) else Err InvalidAcl

-- the access control list that pieces say, by these names
abbrev pub acl_by : Names → List (List ℕ) → Result (List EntryValue) AclFault
acl_by names pieces = entries_of (entry_by names) pieces >>= acl_of_entries

-- by those of a directory
abbrev pub acl_of : Known → List (List ℕ) → Result (List EntryValue) AclFault
acl_of known = acl_by (names_of known)

-- the text spells valid entries, and this is the list of these in canonical order
pub record SpellsBy (names : Names) (text : List ℕ) (acl : List EntryValue) : Type 0 where
  pub entries : List EntryValue
  pub spelt : Spells (entry_by names) MAX_ENTRIES text entries
  pub valid : IsValid entries
  pub in_order_is : in_order entries ≡ acl

abbrev pub SpellsAcl : Known → List ℕ → List EntryValue → Type 0
SpellsAcl known = SpellsBy (names_of known)

-- the word that reports a fault
abbrev pub fault_word : AclFault → List ℕ
fault_word BadAcl = codes "bad-acl"
fault_word UnknownName = codes "unknown-name"
fault_word TooMany = codes "too-many"
fault_word InvalidAcl = codes "invalid-acl"

-- the call reads what the text spells, or refuses it for the same cause; that memory ran out says
-- nothing of it
abbrev pub ReadsAs : {A : Type 0} → Result A AclFault → Result A ReadAclFault → Type 0
ReadsAs spelt (Ok value) = spelt ≡ Ok value
ReadsAs spelt (Err (Acl fault)) = spelt ≡ Err fault
ReadsAs spelt (Err Memory) = Unit {0}

-- the fault of a text of entries, and of entries, as why no list is read

abbrev pub text_fault : TextFault → ReadAclFault
text_fault text.Syntax = Acl BadAcl
text_fault text.UnknownName = Acl UnknownName
text_fault text.TooMany = Acl TooMany
text_fault text.Memory = Memory

abbrev pub entries_fault : Invalid → ReadAclFault
entries_fault invalid.Missing = Acl InvalidAcl
entries_fault invalid.Repeated = Acl InvalidAcl
entries_fault invalid.NoMask = Acl InvalidAcl
entries_fault invalid.Memory = Memory

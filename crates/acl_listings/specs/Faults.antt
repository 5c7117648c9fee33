-- Why a block isn't a file, and the words that report it.
use Rattle.std.specs.Prelude.{◌≡◌, ℕ, List, Result, Ok, Err, codes}
use Rattle.acl_posix.specs.AclText as posix
use Rattle.acl_posix.specs.declared.acl.Invalid.{Invalid}
use Rattle.acl_posix.specs.declared.acl.Invalid.TheVariants as invalid
use Rattle.acl_posix.specs.declared.acl_text.AclFault.TheVariants.{BadAcl, UnknownName, TooMany}
use Rattle.acl_posix.specs.declared.entries.TextFault.{TextFault}
use Rattle.acl_posix.specs.declared.entries.TextFault.TheVariants as text
use Rattle.acl_nfs4.specs.declared.acl.AceFault.{AceFault}
use Rattle.acl_nfs4.specs.declared.acl.AceFault.TheVariants as ace
use Rattle.acl_listings.specs.declared.fault.BlockFault.{BlockFault}
use Rattle.acl_listings.specs.declared.fault.BlockFault.TheVariants.{TooLong, BadHeader}
use Rattle.acl_listings.specs.declared.fault.BlockFault.TheVariants.{RepeatedPath}
use Rattle.acl_listings.specs.declared.fault.BlockFault.TheVariants.{UnknownOwner, UnknownGroup}
use Rattle.acl_listings.specs.declared.fault.BlockFault.TheVariants.{Acl, InvalidAcl, UnknownWay}
use Rattle.acl_listings.specs.declared.fault.FileFault.{FileFault}
use Rattle.acl_listings.specs.declared.rule.Rule.{Rule}
use Rattle.acl_listings.specs.declared.rule.Rule.TheVariants.{Twice, NoMask}
use Rattle.acl_listings.specs.declared.fault.FileFault.TheVariants.{Block, Memory}

abbrev pub fault_word : BlockFault → List ℕ
fault_word TooLong = codes "too-long"
fault_word BadHeader = codes "bad-header"
fault_word RepeatedPath = codes "repeated-path"
fault_word UnknownOwner = codes "unknown-name"
fault_word UnknownGroup = codes "unknown-name"
fault_word (Acl fault) = posix.fault_word fault
fault_word (InvalidAcl rule) = codes "invalid-acl"
fault_word UnknownWay = codes "unknown-way"

-- a call fails with the fault of what it reads, or out of memory, which holds for any text
abbrev pub IsFaultOf : {A : Type 0} → Result A BlockFault → FileFault → Type 0
IsFaultOf reading (Block fault) = reading ≡ Err fault
IsFaultOf reading Memory = Unit {0}

-- a call reads what a text means, or fails with its fault
abbrev pub ReadsAs : {A : Type 0} → Result A BlockFault → Result A FileFault → Type 0
ReadsAs reading (Ok value) = reading ≡ Ok value
ReadsAs reading (Err fault) = IsFaultOf reading fault

abbrev pub out_of_memory : FileFault
out_of_memory = Memory

-- why entries are not read, as the fault of the block
abbrev pub entries_fault : TextFault → FileFault
entries_fault text.Syntax = Block (Acl BadAcl)
entries_fault text.UnknownName = Block (Acl UnknownName)
entries_fault text.TooMany = Block (Acl TooMany)
entries_fault text.Memory = Memory

-- and why NFSv4 entries are not
abbrev pub aces_fault : AceFault → FileFault
aces_fault ace.Syntax = Block (Acl BadAcl)
aces_fault ace.UnknownName = Block (Acl UnknownName)
aces_fault ace.TooMany = Block (Acl TooMany)
aces_fault ace.InheritOnly = Block (Acl BadAcl)
aces_fault ace.Memory = Memory

-- why entries aren't a list, with the rule for an entry that is missing
abbrev pub fault_of_entries : Rule → Invalid → FileFault
fault_of_entries missing invalid.Missing = Block (InvalidAcl missing)
fault_of_entries missing invalid.Repeated = Block (InvalidAcl Twice)
fault_of_entries missing invalid.NoMask = Block (InvalidAcl NoMask)
fault_of_entries missing invalid.Memory = Memory

-- What a call that reads says of what a text asks. That memory ran out says nothing of it.
use Rattle.std.specs.Prelude.{◌≡◌, Result, Ok, Err}
use Rattle.acl_nfs4.specs.declared.acl.AceFault.{AceFault}
use Rattle.acl_nfs4.specs.declared.acl.AceFault.TheVariants as ace
use Rattle.acl_posix.specs.declared.acl_text.AclFault.{AclFault}
use Rattle.acl_posix.specs.declared.acl_text.AclFault.TheVariants as acl
use Rattle.acl_posix.specs.declared.acl_text.ReadAclFault.{ReadAclFault}
use Rattle.acl_posix.specs.declared.acl_text.ReadAclFault.TheVariants as read
use Rattle.acl_tree.specs.declared.path.PathFault.{PathFault}
use Rattle.acl_tree.specs.declared.path.PathFault.TheVariants as path
use Rattle.acl_tree.specs.declared.faults.LineFault.{LineFault}
use Rattle.acl_tree.specs.declared.faults.LineFault.TheVariants as line
use Rattle.acl_lang.specs.declared.refusal.Refusal.{Refusal}
use Rattle.acl_lang.specs.declared.refusal.Refusal.TheVariants.{Fault, Memory}

-- what a text asks for, or the first thing that is wrong with it
abbrev pub Asked : Type 0 → Type 0
Asked A = Result A LineFault

-- the call reads what is asked for, or refuses for the same cause
abbrev pub ReadsAs : {A : Type 0} → Asked A → Result A Refusal → Type 0
ReadsAs asked (Ok value) = asked ≡ Ok value
ReadsAs asked (Err (Fault fault)) = asked ≡ Err fault
ReadsAs asked (Err Memory) = Unit {0}

abbrev pub out_of_memory : Refusal
out_of_memory = Memory

abbrev pub fault_refusal : LineFault → Refusal
fault_refusal fault = Fault fault

-- the faults of a field's own reader, as those of a line

abbrev pub path_refusal : PathFault → Refusal
path_refusal path.BadPath = Fault line.BadPath
path_refusal path.Memory = Memory

abbrev pub acl_line_fault : AclFault → LineFault
acl_line_fault acl.BadAcl = line.BadAcl
acl_line_fault acl.UnknownName = line.UnknownName
acl_line_fault acl.TooMany = line.TooMany
acl_line_fault acl.InvalidAcl = line.InvalidAcl

abbrev pub acl_refusal : ReadAclFault → Refusal
acl_refusal (read.Acl fault) = Fault (acl_line_fault fault)
acl_refusal read.Memory = Memory

abbrev pub aces_refusal : AceFault → Refusal
aces_refusal ace.Syntax = Fault line.BadAcl
aces_refusal ace.UnknownName = Fault line.UnknownName
aces_refusal ace.TooMany = Fault line.TooMany
aces_refusal ace.InheritOnly = Fault line.InheritOnly
aces_refusal ace.Memory = Memory

-- The numbers that report what goes wrong.
use Rattle.std.specs.Prelude.{ℤ, negsuc}
use Rattle.acl_nfs4.specs.declared.acl.AceFault.{AceFault}
use Rattle.acl_nfs4.specs.declared.acl.AceFault.TheVariants as aces
use Rattle.acl_posix.specs.declared.acl_text.AclFault.{AclFault}
use Rattle.acl_posix.specs.declared.acl_text.AclFault.TheVariants as text
use Rattle.acl_posix.specs.declared.acl_text.ReadAclFault.{ReadAclFault}
use Rattle.acl_posix.specs.declared.acl_text.ReadAclFault.TheVariants as text_errors
use Rattle.acl_wire.specs.declared.fault.Nfs4Error.{Nfs4Error}
use Rattle.acl_wire.specs.declared.fault.Nfs4Error.TheVariants as nfs4_errors
use Rattle.acl_wire.specs.declared.fault.Nfs4Fault.{Nfs4Fault}
use Rattle.acl_wire.specs.declared.fault.Nfs4Fault.TheVariants as nfs4
use Rattle.acl_wire.specs.declared.fault.PosixError.{PosixError}
use Rattle.acl_wire.specs.declared.fault.PosixError.TheVariants as posix_errors
use Rattle.acl_wire.specs.declared.fault.PosixFault.{PosixFault}
use Rattle.acl_wire.specs.declared.fault.PosixFault.TheVariants as posix

-- negsuc 0 is -1
abbrev pub out_of_memory : ℤ
out_of_memory = negsuc 0

abbrev pub no_room : ℤ
no_room = negsuc 1

abbrev pub posix_number : PosixFault → ℤ
posix_number posix.Argument = negsuc 2
posix_number posix.Size = negsuc 3
posix_number posix.Version = negsuc 4
posix_number posix.TooMany = negsuc 5
posix_number posix.Tag = negsuc 6
posix_number posix.Id = negsuc 7
posix_number posix.Perms = negsuc 8
posix_number posix.Missing = negsuc 9
posix_number posix.Repeated = negsuc 10
posix_number posix.NoMask = negsuc 11

abbrev pub posix_error_number : PosixError → ℤ
posix_error_number posix_errors.Memory = out_of_memory
posix_error_number (posix_errors.Fault fault) = posix_number fault

abbrev pub nfs4_number : Nfs4Fault → ℤ
nfs4_number nfs4.Argument = negsuc 2
nfs4_number nfs4.Size = negsuc 3
nfs4_number nfs4.UnknownName = negsuc 18
nfs4_number nfs4.TooMany = negsuc 5
nfs4_number nfs4.Type = negsuc 12
nfs4_number nfs4.Flags = negsuc 13
nfs4_number nfs4.Mask = negsuc 14
nfs4_number nfs4.Who = negsuc 15
nfs4_number nfs4.Id = negsuc 7
nfs4_number nfs4.InheritOnly = negsuc 16
nfs4_number nfs4.Unkept = negsuc 20

abbrev pub nfs4_error_number : Nfs4Error → ℤ
nfs4_error_number nfs4_errors.Memory = out_of_memory
nfs4_error_number (nfs4_errors.Fault fault) = nfs4_number fault

-- of texts
abbrev pub text_number : AclFault → ℤ
text_number text.BadAcl = negsuc 17
text_number text.UnknownName = negsuc 18
text_number text.TooMany = negsuc 5
text_number text.InvalidAcl = negsuc 19

abbrev pub text_error_number : ReadAclFault → ℤ
text_error_number text_errors.Memory = out_of_memory
text_error_number (text_errors.Acl fault) = text_number fault

abbrev pub ace_fault_number : AceFault → ℤ
ace_fault_number aces.Syntax = negsuc 17
ace_fault_number aces.UnknownName = negsuc 18
ace_fault_number aces.TooMany = negsuc 5
ace_fault_number aces.InheritOnly = negsuc 16
ace_fault_number aces.Memory = out_of_memory

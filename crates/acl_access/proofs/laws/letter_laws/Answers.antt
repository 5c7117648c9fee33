use Rattle.acl_access.proofs.GrantedLemmas.{bits_are_granted, letters_stand_for_bits}
use Rattle.acl_access.proofs.laws.letter_laws.Goals as goal

pub returns-clause-bits : goal.returns-clause-bits
returns-clause-bits c = bits_are_granted

pub returns-clause-posix : goal.returns-clause-posix
returns-clause-posix c = letters_stand_for_bits

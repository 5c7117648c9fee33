use Rattle.std.proofs.Common.{◌∙◌, ap, Some, arith}
use Rattle.acl_nfs4.specs.Letters.{flag_table}
use Rattle.acl_nfs4.proofs.LetterBits.{flag_bits_given}
use Rattle.acl_nfs4.proofs.LetterLemmas.{flags-small}
use Rattle.acl_nfs4.proofs.letters.read_flags.Goals as goal

pub overflow_cast-bits : goal.overflow_cast-bits
overflow_cast-bits c = let small = flags-small c.args.text.now c.in-Some.bits (c.in-Some.ensures flag_table flag_bits_given) in omega arith

pub returns-in-Some : goal.returns-in-Some
returns-in-Some c = ap Some (c.from_bits_retain.ensures tt) ∙ c.in-Some.ensures flag_table flag_bits_given

pub returns-in-None : goal.returns-in-None
returns-in-None c = c.in-None.ensures flag_table flag_bits_given

use Rattle.std.proofs.Common.{◌∙◌, ap, Some}
use Rattle.acl_nfs4.specs.Letters.{mask_table}
use Rattle.acl_nfs4.proofs.LetterBits.{mask_bits_given}
use Rattle.acl_nfs4.proofs.letters.read_letters.Goals as goal

pub returns-in-Some : goal.returns-in-Some
returns-in-Some c = ap Some (c.from_bits_retain.ensures tt) ∙ c.in-Some.ensures mask_table mask_bits_given

pub returns-in-None : goal.returns-in-None
returns-in-None c = c.in-None.ensures mask_table mask_bits_given

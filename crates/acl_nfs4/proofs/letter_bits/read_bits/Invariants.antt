use Rattle.std.proofs.Common.{List, take}
use Rattle.acl_names.specs.declared.text.letters.Letter.{Letter}
use Rattle.acl_names.proofs.LettersInTurn.{AreRead}
use Rattle.acl_nfs4.specs.LetterBits.{GivesBitsOf}
use Rattle.acl_nfs4.proofs.letter_bits.read_bits.Given as goal

-- the letters so far, by any table that the list gives the bits of
abbrev pub invariant-loop-letter : goal.invariant-loop-letter
invariant-loop-letter l = (table : List Letter) → GivesBitsOf l.bits_of table → AreRead table (take l.letter-index l.text) l.bits

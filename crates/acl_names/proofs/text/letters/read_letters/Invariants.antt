use Rattle.std.proofs.Common.{take}
use Rattle.acl_names.proofs.LettersInTurn.{AreRead}
use Rattle.acl_names.proofs.text.letters.read_letters.Given as goal

abbrev pub invariant-loop-at : goal.invariant-loop-at
invariant-loop-at l = AreRead l.table (take l.at l.text) l.bits

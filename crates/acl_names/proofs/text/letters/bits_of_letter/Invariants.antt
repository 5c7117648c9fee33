use Rattle.std.proofs.Common.{◌≡◌, ◌==◌, take, filter}
use Rattle.acl_names.specs.Letters.{bits_of_rows}
use Rattle.acl_names.proofs.text.letters.bits_of_letter.Given as goal

abbrev pub invariant-loop-row : goal.invariant-loop-row
invariant-loop-row l = l.bits ≡ bits_of_rows (filter (λ row. row.letter == l.letter) (take l.row-index l.table))

use Rattle.std.proofs.Common.{◌≡◌, take, filter}
use Rattle.acl_names.specs.Letters.{bits_of_rows, occurs}
use Rattle.acl_forms.proofs.marks.bits_in.Given as goal

abbrev pub invariant-loop-row : goal.invariant-loop-row
invariant-loop-row l = l.bits ≡ bits_of_rows (filter (λ row. occurs row.letter l.text) (take l.row-index l.table))

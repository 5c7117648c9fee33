use Rattle.std.proofs.Common.{◌≡◌, length}
use Rattle.acl_names.specs.Pieces.{trim_end}
use Rattle.acl_names.proofs.text.blanks.without_blanks_behind.Given as goal

abbrev pub invariant-loop-rest : goal.invariant-loop-rest
invariant-loop-rest l = trim_end l.rest ≡ trim_end l.text

abbrev pub decreases-loop-rest : goal.decreases-loop-rest
decreases-loop-rest l = length l.rest

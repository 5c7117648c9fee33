use Rattle.std.proofs.Common.{◌≡◌, length}
use Rattle.acl_names.specs.Pieces.{trim_start}
use Rattle.acl_names.proofs.text.blanks.skip_blanks.Given as goal

abbrev pub invariant-loop-rest : goal.invariant-loop-rest
invariant-loop-rest l = trim_start l.rest ≡ trim_start l.text

abbrev pub decreases-loop-rest : goal.decreases-loop-rest
decreases-loop-rest l = length l.rest

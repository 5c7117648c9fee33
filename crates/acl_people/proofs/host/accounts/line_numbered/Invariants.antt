use Rattle.std.proofs.Common.{◌≡◌, drop}
use Rattle.acl_names.specs.Bytes.{newline}
use Rattle.acl_names.specs.Pieces.{parts}
use Rattle.acl_people.proofs.host.accounts.line_numbered.Given as goal

-- the lines in front were taken
abbrev pub invariant-loop-taken : goal.invariant-loop-taken
invariant-loop-taken l = l.lines ≡ drop l._taken (parts newline l.text)

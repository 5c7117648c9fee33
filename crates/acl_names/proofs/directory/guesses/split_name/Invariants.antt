use Rattle.std.proofs.Common.{◌≡◌, ◌==◌, false, take}
use Rattle.std.specs.List.{list_any}
use Rattle.acl_names.proofs.directory.guesses.split_name.Given as goal

-- none of the bytes so far is a separator
abbrev pub invariant-loop-at : goal.invariant-loop-at
invariant-loop-at l = list_any (λ x. x == l.separator) (take l.at l.text) ≡ false

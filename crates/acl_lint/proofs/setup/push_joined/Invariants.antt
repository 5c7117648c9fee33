use Rattle.std.proofs.Common.{◌≡◌, ◌++◌, drop}
use Rattle.acl_lint.specs.LintAnswer.{with_hyphens}
use Rattle.acl_lint.proofs.setup.push_joined.Given as goal

-- the bytes so far, and those left, are those of all
abbrev pub invariant-loop-byte : goal.invariant-loop-byte
invariant-loop-byte l = l.out.items ++ with_hyphens (drop l.byte-index l.words) ≡ l.fn.out.items ++ with_hyphens l.words

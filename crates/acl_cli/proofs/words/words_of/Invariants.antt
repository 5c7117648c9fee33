use Rattle.std.proofs.Common.{◌≡◌, map, string_bytes}
use Rattle.acl_cli.proofs.words.words_of.Given as goal

-- the words so far are the lines so far
abbrev pub invariant-loop-line : goal.invariant-loop-line
invariant-loop-line l = map string_bytes l.words.items ≡ map (λ line. line.now) l.yielded

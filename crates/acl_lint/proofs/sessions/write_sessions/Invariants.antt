use Rattle.std.proofs.Common.{◌≡◌, ◌++◌, List, ℕ, drop, length}
use Rattle.std.specs.Io.KnownBytes.{Appends}
use Rattle.acl_lint.specs.LintText.{sessions_text}
use Rattle.acl_lint.proofs.SessionLemmas.{shown}
use Rattle.acl_lint.proofs.sessions.write_sessions.Given as goal

-- what was written so far, and what is reported of the sessions left, are what is reported for all
abbrev pub invariant-loop-session : goal.invariant-loop-session
invariant-loop-session g l = record {
  so_far : List ℕ;
  written : Appends (g.W.Write.contents l.initial.out) (g.W.Write.contents l.out) so_far;
  left : so_far ++ sessions_text l.directory (shown (drop l.session l.names)) (drop l.session l.texts) ≡ sessions_text l.directory (shown l.names) l.texts;
  all : l.session-end ≡ length l.texts;
}

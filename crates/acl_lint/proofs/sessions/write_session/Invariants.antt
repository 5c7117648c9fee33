use Rattle.std.proofs.Common.{◌≡◌, ◌≤◌, ◌+◌, ◌++◌, List, ℕ, length}
use Rattle.std.specs.Io.KnownBytes.{Appends}
use Rattle.acl_lint.specs.LintText.{session_text}
use Rattle.acl_lint.proofs.SessionLemmas.{reported_from}
use Rattle.acl_lint.proofs.sessions.write_session.Given as goal

-- what was written, what is kept, and what is reported of the lines left, are what is reported for all
abbrev pub invariant-loop-line : goal.invariant-loop-line
invariant-loop-line g l = record {
  sent : List ℕ;
  written : Appends (g.W.Write.contents l.initial.out) (g.W.Write.contents l.out) sent;
  left : sent ++ (l.kept.items ++ reported_from l.directory l.name l.number l.lines) ≡ session_text l.directory l.name l.text;
  within : l.number + length l.lines ≤ 1048577;
}

abbrev pub decreases-loop-line : goal.decreases-loop-line
decreases-loop-line g l = length l.lines

use Rattle.std.proofs.Common.{◌≡◌, ◌++◌, List, ℕ, drop, length}
use Rattle.std.specs.Io.KnownBytes.{Appends}
use Rattle.acl_service.specs.RunText.{sessions_text}
use Rattle.acl_service.proofs.PrintLemmas.{all_items}
use Rattle.acl_service.proofs.run_command.printing.write_sessions.Given as goal

-- what was written so far, and the text of the sessions left, are the text of all
abbrev pub invariant-loop-session : goal.invariant-loop-session
invariant-loop-session g l = record {
  so_far : List ℕ;
  written : Appends (g.W.Write.contents l.initial.out) (g.W.Write.contents l.out) so_far;
  left : so_far ++ sessions_text l.session (all_items (drop l.session l.outputs)) ≡ sessions_text 0 (all_items l.outputs);
  all : l.session-end ≡ length l.outputs;
}

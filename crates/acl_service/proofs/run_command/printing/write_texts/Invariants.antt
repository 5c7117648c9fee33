use Rattle.std.proofs.Common.{◌≡◌, ◌++◌, List, ℕ, drop, flat_map}
use Rattle.std.specs.Io.KnownBytes.{Appends}
use Rattle.acl_service.proofs.run_command.printing.write_texts.Given as goal

-- what was written so far, and the texts left, are all texts
abbrev pub invariant-loop-text : goal.invariant-loop-text
invariant-loop-text g l = record {
  so_far : List ℕ;
  written : Appends (g.W.Write.contents l.initial.out) (g.W.Write.contents l.out) so_far;
  left : so_far ++ flat_map (λ text. text.now) (drop l.text-index l.texts) ≡ flat_map (λ text. text.now) l.texts;
}

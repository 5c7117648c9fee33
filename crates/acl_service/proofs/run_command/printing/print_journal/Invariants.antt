use Rattle.std.proofs.Common.{◌≡◌, ◌++◌, drop, flat_map}
use Rattle.acl_service.specs.RunText.{entry_text, journal_text}
use Rattle.acl_service.proofs.run_command.printing.print_journal.Given as goal

-- the text so far, and the lines of the entries left, are those of all
abbrev pub invariant-loop-entry : goal.invariant-loop-entry
invariant-loop-entry l = l.text.items ++ flat_map entry_text (drop l.entry-index l.journal) ≡ journal_text l.journal

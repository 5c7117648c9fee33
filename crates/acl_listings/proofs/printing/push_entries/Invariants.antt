use Rattle.std.proofs.Common.{◌≡◌, ◌++◌, take}
use Rattle.acl_posix.specs.PrintedText.{HaveIds}
use Rattle.acl_listings.specs.Numbered.{entries_text}
use Rattle.acl_listings.proofs.printing.push_entries.Given as goal

-- what was put is the entries so far, whose ids are within their range
abbrev pub invariant-loop-entry : goal.invariant-loop-entry
invariant-loop-entry l = record {
  text : l.out.items ≡ l.fn.out.items ++ entries_text l.word (take l.entry-index l.entries);
  have_ids : HaveIds (take l.entry-index l.entries);
}

use Rattle.std.proofs.Common.{◌≡◌, ◌≤◌, ◌+◌, ◌*◌, ◌++◌, take, option_map}
use Rattle.std.specs.Prelude.{vec_len, vec_capacity}
use Rattle.acl_posix.specs.declared.limits.TheConstants.{MAX_LINE}
use Rattle.acl_posix.specs.Perms.{bits_of}
use Rattle.acl_posix.specs.PrintedText.{effective_text, HaveIds}
use Rattle.acl_posix.proofs.printing.put_lines.Given as goal

-- the lines so far are those of the entries so far, whose ids are within their range
abbrev pub invariant-loop-entry : goal.invariant-loop-entry
invariant-loop-entry l = record {
  text : l.text.items ≡ l.initial.text.items ++ effective_text l.directory (option_map bits_of l.mask) (take l.entry-index l.entries);
  have_ids : HaveIds (take l.entry-index l.entries);
  len : vec_len l.text ≤ vec_len l.initial.text + l.entry-index * MAX_LINE;
  capacity : vec_capacity l.text ≡ vec_capacity l.initial.text;
}

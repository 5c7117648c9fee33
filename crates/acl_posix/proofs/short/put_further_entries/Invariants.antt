use Rattle.std.proofs.Common.{◌≡◌, ◌≤◌, ◌+◌, ◌*◌, ◌++◌, ◌∷◌, take, flat_map}
use Rattle.std.specs.Prelude.{vec_len, vec_capacity}
use Rattle.acl_names.specs.Bytes.{comma}
use Rattle.acl_posix.specs.declared.limits.TheConstants.{MAX_SHORT_ENTRY}
use Rattle.acl_posix.specs.PrintedText.{short_entry, HaveIds}
use Rattle.acl_posix.proofs.short.put_further_entries.Given as goal

-- the text so far is that of the entries so far, whose ids are within their range
abbrev pub invariant-loop-entry : goal.invariant-loop-entry
invariant-loop-entry l = record {
  text : l.out.items ≡ l.initial.out.items ++ flat_map (λ entry. comma ∷ short_entry entry) (take l.entry-index l.entries);
  have_ids : HaveIds (take l.entry-index l.entries);
  len : vec_len l.out ≤ vec_len l.initial.out + l.entry-index * MAX_SHORT_ENTRY;
  capacity : vec_capacity l.out ≡ vec_capacity l.initial.out;
}

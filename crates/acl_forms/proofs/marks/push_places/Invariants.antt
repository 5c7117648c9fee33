use Rattle.std.proofs.Common.{◌≡◌, ◌≤◌, ◌+◌, ◌++◌, length, take, vec_len, vec_capacity}
use Rattle.acl_forms.specs.PrintedForm.{places_text}
use Rattle.acl_forms.proofs.marks.push_places.Given as goal

-- the places so far are those of the rows so far
abbrev pub invariant-loop-row : goal.invariant-loop-row
invariant-loop-row l = record {
  text : l.out.items ≡ l.fn.out.items ++ places_text (take l.row-index l.table) l.bits;
  len : vec_len l.out ≡ vec_len l.fn.out + length (places_text (take l.row-index l.table) l.bits);
  capacity : vec_capacity l.fn.out ≤ vec_capacity l.out;
}

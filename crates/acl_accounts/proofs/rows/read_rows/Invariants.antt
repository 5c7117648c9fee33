use Rattle.std.proofs.Common.{◌≡◌, ◌≤◌, ◌+◌, map, length}
use Rattle.acl_accounts.specs.Rows.{rows_from, rows_of_lines}
use Rattle.acl_accounts.specs.Views.{view_group, view_user}
use Rattle.acl_accounts.proofs.rows.read_rows.Given as goal

-- the rows so far, and those of the lines to come, are the rows of the text
abbrev pub invariant-loop-line : goal.invariant-loop-line
invariant-loop-line l = record {
  rows : rows_of_lines l.text ≡ rows_from l.number
      (record { users = map view_user l.users.items; groups = map view_group l.groups.items }) l.lines;
  numbers : l.number + length l.lines ≤ length l.text + 2;
}

abbrev pub decreases-loop-line : goal.decreases-loop-line
decreases-loop-line l = length l.lines

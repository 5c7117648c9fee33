use Rattle.std.proofs.Common.{◌≤◌, length}
use Rattle.acl_names.proofs.PlainLists.{IsReadPlainly}
use Rattle.acl_names.proofs.text.list.read_plainly.Given as goal

abbrev pub invariant-loop-rest : goal.invariant-loop-rest
invariant-loop-rest g l = record {
  so_far : IsReadPlainly (g.R.PieceReader.value_of l.reader) l.text l.rest l.list.items;
  room : g.row.N ≤ l.list.capacity;
}

abbrev pub decreases-loop-rest : goal.decreases-loop-rest
decreases-loop-rest g l = length l.rest

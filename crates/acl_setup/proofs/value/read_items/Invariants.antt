use Rattle.std.proofs.Common.{◌≡◌, drop, length}
use Rattle.toml.specs.View.{items_view}
use Rattle.acl_setup.specs.Readings.{each_item}
use Rattle.acl_setup.proofs.SetupLemmas.{read_after}
use Rattle.acl_setup.proofs.value.read_items.Given as goal

-- the items so far, and those of the values left, are those of all
abbrev pub invariant-loop-index : goal.invariant-loop-index
invariant-loop-index g l = record {
  left : read_after g.T.FromValue.reading l.items.items l.index (items_view (drop l.index l.values)) ≡ each_item g.T.FromValue.reading 0 (items_view l.values);
  all : l.index-end ≡ length l.values;
}

use Rattle.std.proofs.Common.{List, ℕ, map as each, take}
use Rattle.std.specs.List.{flat_map}
use Rattle.std.specs.Map.Iter.{deref_pair}
use Rattle.acl_tree.specs.declared.node.Node.{Node}
use Rattle.acl_audit.specs.Dump.{set_commands}
use Rattle.acl_tree_queries.specs.DumpText.{AddsLines}
use Rattle.acl_tree_queries.proofs.dump_command.text.push_settings.Given as goal

-- the lines of the entries so far
abbrev pub invariant-loop-path : goal.invariant-loop-path
invariant-loop-path l = AddsLines (flat_map set_commands (each (deref_pair {K = List ℕ} {X = Node}) (take l.path-index l.entries))) l.initial.out.items l.out.items

use Rattle.std.proofs.Common.{◌≡◌, drop}
use Rattle.acl_tree_queries.specs.SetupTree.{tree_left}
use Rattle.acl_tree_queries.proofs.setup_tree.apply_texts.Given as goal

-- what the texts that are left leave, all of them leave
abbrev pub invariant-loop-text : goal.invariant-loop-text
invariant-loop-text l = tree_left l.directory l.tree (drop l.text-index l.texts) ≡ tree_left l.directory l.fn.tree l.texts

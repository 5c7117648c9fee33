use Rattle.std.proofs.Common.{rules, ◌≡◌, ◌<◌, List, ℕ, get_or, length, map as each, sym, subst}
use Rattle.std.specs.List.{flat_map}
use Rattle.std.specs.Map.Iter.{deref_pair}
use Rattle.std.proofs.lemmas.Result.{err_from_is_err_and}
use Rattle.acl_tree.specs.declared.node.Node.{Node}
use Rattle.acl_audit.specs.Dump.{set_commands}
use Rattle.acl_tree_queries.specs.TreeMeaning.{IsAnswerFailure}
use Rattle.acl_tree_queries.specs.DumpText.{HasLongLine}
use Rattle.acl_tree_queries.proofs.DumpLemmas.{fault_weaker, long_within, next_lines, of_fault}
use Rattle.acl_tree_queries.proofs.dump_command.text.push_settings.Goals as goal

pub returns-in_err-push_lists-clause-refused : goal.returns-in_err-push_lists-clause-refused
returns-in_err-push_lists-clause-refused c =
    let items = c.args.entries.now in
    let at = c.loop-path.path-index in
    let item = c.loop-path-item.result in
    let here : get_or items at item ≡ item = search rules in
    let within : at < length items = search rules in
    let whole = HasLongLine (flat_map set_commands (each (deref_pair {K = List ℕ} {X = Node}) items)) in
    let p = err_from_is_err_and c.from_residual.result c.from_residual.ensures.1 in
    of_fault c.from_residual.result p.0 (IsAnswerFailure whole) p.1
    (subst (IsAnswerFailure whole) (sym p.2)
    (fault_weaker _ whole (long_within (deref_pair {K = List ℕ} {X = Node}) set_commands items at item within here) _ c.in_err-push_lists.ensures.refused))

pub loop-path-preserved : goal.loop-path-preserved
loop-path-preserved c =
    let items = c.args.entries.now in
    let at = c.loop-path.path-index in
    let item = c.loop-path-item.result in
    let here : get_or items at item ≡ item = search rules in
    let within : at < length items = search rules in
    next_lines (deref_pair {K = List ℕ} {X = Node}) set_commands items at item within here c.args.out.now.items c.loop-path.out.items c.push_lists.new.out.items
    c.loop-path.invariant c.in_ok-push_lists.ensures.lines

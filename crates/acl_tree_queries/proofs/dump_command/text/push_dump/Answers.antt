use Rattle.std.proofs.Common.{rules, ◌≡◌, ◌∙◌, ◌++◌, [], ◌∷◌, List, ℕ, ap, map as each, sym, subst}
use Rattle.std.specs.FinMap as map
use Rattle.std.specs.List.{flat_map}
use Rattle.std.specs.Map.Iter.{deref_pair}
use Rattle.std.proofs.lemmas.Result.{err_from_is_err_and, on_ok_weaker}
use Rattle.acl_names.specs.Bytes.{newline}
use Rattle.acl_tree.specs.Entries.{Entry}
use Rattle.acl_tree.specs.declared.node.Node.{Node}
use Rattle.acl_audit.specs.Dump.{creation, make_commands, set_commands}
use Rattle.acl_tree_queries.specs.TreeMeaning.{IsAnswerFailure}
use Rattle.acl_tree_queries.specs.DumpText.{AddsLines, HasLongLine, closing_line}
use Rattle.acl_tree_queries.proofs.DumpLemmas.{fault_weaker, long_before, long_behind, more_lines, of_fault, refused_weaker}
use Rattle.acl_tree_queries.proofs.dump_command.text.push_dump.Goals as goal

pub returns-in_err-push_creations-clause-refused : goal.returns-in_err-push_creations-clause-refused
returns-in_err-push_creations-clause-refused c =
    let shown : List Entry = each (deref_pair {K = List ℕ} {X = Node}) c.as_slice.result.now in
    let entries : List Entry = map.entries c.args.tree.now.nodes in
    let are : shown ≡ entries = ap (each deref_pair) c.as_slice.ensures.value ∙ c.in_ok-entries.ensures in
    let whole = HasLongLine (make_commands c.args.tree.now) in
    let p = err_from_is_err_and c.from_residual-in_err-push_creations.result c.from_residual-in_err-push_creations.ensures.1 in
    of_fault c.from_residual-in_err-push_creations.result p.0 (IsAnswerFailure whole) p.1
    (subst (IsAnswerFailure whole) (sym p.2)
    (fault_weaker (HasLongLine (flat_map creation shown)) whole
    (λ long. long_before (flat_map creation entries) (flat_map set_commands entries) (subst (λ es. HasLongLine (flat_map creation es)) are long))
    _ c.in_err-push_creations.ensures.refused))

pub returns-clause-lines : goal.returns-clause-lines
returns-clause-lines c =
    let first : List Entry = each (deref_pair {K = List ℕ} {X = Node}) c.as_slice.result.now in
    let second : List Entry = each (deref_pair {K = List ℕ} {X = Node}) c.as_slice-2.result.now in
    let entries : List Entry = map.entries c.args.tree.now.nodes in
    let are : first ≡ entries = ap (each deref_pair) c.as_slice.ensures.value ∙ c.in_ok-entries.ensures in
    let too : second ≡ entries = ap (each deref_pair) c.as_slice-2.ensures.value ∙ c.in_ok-entries.ensures in
    let closed = c.extend_from_slice.new.self.items in
    let created = c.push_creations.new.out.items in
    let new = c.push_settings.new.out.items in
    let begun : closed ≡ c.args.out.now.items ++ (closing_line ++ newline ∷ []) = search rules in
    on_ok_weaker c.push_settings.result
    (λ set. subst (λ old. AddsLines (make_commands c.args.tree.now) old new) begun
    (more_lines (flat_map creation entries) (flat_map set_commands entries) closed created new
    (subst (λ es. AddsLines (flat_map creation es) closed created) are c.in_ok-push_creations.ensures.lines)
    (subst (λ es. AddsLines (flat_map set_commands es) created new) too set)))
    c.push_settings.ensures.lines

pub returns-clause-refused : goal.returns-clause-refused
returns-clause-refused c =
    let second : List Entry = each (deref_pair {K = List ℕ} {X = Node}) c.as_slice-2.result.now in
    let entries : List Entry = map.entries c.args.tree.now.nodes in
    let too : second ≡ entries = ap (each deref_pair) c.as_slice-2.ensures.value ∙ c.in_ok-entries.ensures in
    refused_weaker c.push_settings.result (HasLongLine (flat_map set_commands second)) (HasLongLine (make_commands c.args.tree.now))
    (λ long. long_behind (flat_map creation entries) (flat_map set_commands entries) (subst (λ es. HasLongLine (flat_map set_commands es)) too long))
    c.push_settings.ensures.refused

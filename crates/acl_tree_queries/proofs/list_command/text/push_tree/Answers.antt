use Rattle.std.proofs.Common.{◌≡◌, ◌∙◌, ◌++◌, [], ◌∷◌, All, List, Some, ℕ, ap, refl, map as each, subst, sym}
use Rattle.std.specs.Map.Iter.{deref_pair}
use Rattle.acl_listings.specs.Block.{FileValue}
use Rattle.acl_listings.specs.Numbered.{IsPrintable, files_text}
use Rattle.acl_listings.proofs.NumberedLemmas.{numbered_again, paths_again}
use Rattle.acl_tree.specs.Entries.{Entry, path_of}
use Rattle.acl_tree.specs.declared.node.Node.{Node}
use Rattle.acl_tree_queries.specs.ListAnswer.{HasPathsOf, file_at}
use Rattle.acl_tree_queries.proofs.ListLemmas.{IsAtPath, on_ok_both, walk_at_paths}
use Rattle.acl_tree_queries.proofs.list_command.text.push_tree.Goals as goal

-- the paths of printed nodes are theirs
paths_of_entries : (entries : List Entry) → All IsPrintable (each file_at entries) → HasPathsOf entries (files_text (each file_at entries))
paths_of_entries entries are = paths_again 1 (each file_at entries) are ∙ shown entries
  where
    shown : (entries : List Entry) → each (λ (file : FileValue). Some file.path) (each file_at entries) ≡ each (λ entry. Some (path_of entry)) entries
    shown [] = refl
    shown (entry ∷ entries) = ap (λ more. Some entry.0 ∷ more) (shown entries)

pub push_nodes-requires : goal.push_nodes-requires
push_nodes-requires c =
    subst (λ (entries : List Entry). All IsAtPath entries) (sym (ap (each (deref_pair {K = List ℕ} {X = Node})) c.as_slice.ensures.value))
    (walk_at_paths c.args.tree.now (each (deref_pair {K = List ℕ} {X = Node}) c.in_ok-entries.entries.items) c.requires c.in_ok-entries.ensures)

pub returns : goal.returns
returns c =
    let entries : List Entry = each (deref_pair {K = List ℕ} {X = Node}) c.in_ok-entries.entries.items in
    let same : each (deref_pair {K = List ℕ} {X = Node}) c.as_slice.result.now ≡ entries = ap (each (deref_pair {K = List ℕ} {X = Node})) c.as_slice.ensures.value in
    on_ok_both c.push_nodes.result
    (λ text printable. (
      entries,
      c.in_ok-entries.ensures,
      text ∙ ap (λ (es : List Entry). c.args.out.now.items ++ files_text (each file_at es)) same,
      λ names numbers. numbered_again names numbers 1 (each file_at entries) (subst (λ (es : List Entry). All IsPrintable (each file_at es)) same printable),
      paths_of_entries entries (subst (λ (es : List Entry). All IsPrintable (each file_at es)) same printable),
    ))
    c.push_nodes.ensures.text c.push_nodes.ensures.printable

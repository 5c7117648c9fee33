use Rattle.std.proofs.Common.{rules, ◌≡◌, ◌∙◌, ◌++◌, ◌+◌, ◌<◌, [], ◌∷◌, All, Bor, List, ℕ, ap, append_assoc, append-nil, get_or, length, map as each, subst, sym, take}
use Rattle.std.proofs.lemmas.Grind.{flat_map-append}
use Rattle.std.proofs.lemmas.List.{get_or-map, length-map, map-append, take_more}
use Rattle.std.proofs.lemmas.List.Elements.{All-push}
use Rattle.std.specs.Map.Iter.{deref_pair}
use Rattle.acl_listings.specs.Block.{FileValue}
use Rattle.acl_listings.specs.Numbered.{IsPrintable, file_text, files_text}
use Rattle.acl_tree.specs.Entries.{Entry}
use Rattle.acl_tree.specs.declared.node.Node.{Node}
use Rattle.acl_tree_queries.specs.ListAnswer.{file_at}
use Rattle.acl_tree_queries.proofs.ListLemmas.{IsAtPath}
use Rattle.acl_tree_queries.proofs.list_command.text.push_nodes.Goals as goal

abbrev shown : Bor (List ℕ) × Bor Node → Entry
shown = deref_pair

abbrev file_shown : Bor (List ℕ) × Bor Node → FileValue
file_shown item = file_at (shown item)

-- one more of them
files_more : (items : List (Bor (List ℕ) × Bor Node)) (at : ℕ) (item : Bor (List ℕ) × Bor Node) → at < length items → get_or items at item ≡ item
    → each file_at (each shown (take (at + 1) items)) ≡ each file_at (each shown (take at items)) ++ file_shown item ∷ []
files_more items at item within here =
    ap (λ some. each file_at (each shown some)) (take_more items at item within ∙ ap (λ one. take at items ++ one ∷ []) here)
    ∙ ap (each file_at) (map-append shown (take at items) (item ∷ []))
    ∙ map-append file_at (each shown (take at items)) (shown item ∷ [])

pub push_node-requires : goal.push_node-requires
push_node-requires c =
    let items = c.args.entries.now in
    let at = c.loop-path.path-index in
    let item = c.loop-path-item.result in
    let here : get_or items at item ≡ item = search rules in
    let within : at < length items = search rules in
    let inside : at < length (each shown items) = subst (λ n. at < n) (sym (length-map items shown)) within in
    subst IsAtPath (get_or-map shown items at item (shown item) within ∙ ap shown here) (c.requires at (shown item) inside)

pub loop-path-preserved : goal.loop-path-preserved
loop-path-preserved c =
    let items = c.args.entries.now in
    let at = c.loop-path.path-index in
    let item = c.loop-path-item.result in
    let here : get_or items at item ≡ item = search rules in
    let within : at < length items = search rules in
    let so_far = c.loop-path.invariant in
    let before : List FileValue = each file_at (each shown (take at items)) in
    let more = files_more items at item within here in
    let put = c.in_ok-push_node.ensures in
    record {
      text =
          put.text
          ∙ ap (λ (text : List ℕ). text ++ file_text (file_shown item)) so_far.text
          ∙ append_assoc c.args.out.now.items (files_text before) (file_text (file_shown item))
          ∙ ap (λ (text : List ℕ). c.args.out.now.items ++ text)
          (ap (λ (text : List ℕ). files_text before ++ text) (sym (append-nil (file_text (file_shown item))))
          ∙ sym (flat_map-append file_text before (file_shown item ∷ []))
          ∙ ap files_text (sym more));
      printable = subst (All IsPrintable) (sym more) (All-push IsPrintable before (file_shown item) so_far.printable put.printable);
    }

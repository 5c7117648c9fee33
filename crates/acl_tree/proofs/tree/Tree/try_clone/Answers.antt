use Rattle.std.proofs.Common.{rules, ◌≡◌, ◌∙◌, ◌+◌, ◌-◌, ◌<◌, ℕ, List, ap, arith, drop, get_or, length, map as each, subst, sym}
use Rattle.std.proofs.lemmas.List.{get_or-map, length-map}
use Rattle.std.specs.FinMap as finite
use Rattle.std.specs.Map.Iter.{deref_pair}
use Rattle.acl_tree.specs.Entries.{Entry}
use Rattle.acl_tree.specs.declared.node.Node.{Node}
use Rattle.acl_tree.proofs.CopyLemmas.{map_of, map_of_entries, one_more}
use Rattle.acl_tree.proofs.tree.Tree.try_clone.Goals as goal

pub loop-copied-preserved : goal.loop-copied-preserved
loop-copied-preserved c =
    let items = c.in_ok-entries.entries.items in
    let entries = finite.entries c.args.self.now.nodes in
    let shown = deref_pair {K = List ℕ} {X = Node} in
    let are : each shown items ≡ entries = c.in_ok-entries.ensures in
    let same_length : length items ≡ length entries = sym (length-map items shown) ∙ ap length are in
    let copied = c.loop-copied.copied in
    let within : copied < length items = search rules in
    let item = c.index.result.now in
    let entry : Entry = (item.0.now, c.in_ok-try_clone.field-0) in
    let here : get_or items (length items - (copied + 1)) item ≡ item = search rules in
    let node_is : c.in_ok-try_clone.field-0 ≡ item.1.now = c.in_ok-try_clone.ensures in
    let entry_is : entry ≡ shown item = ap (λ (node : Node). (item.0.now, node)) node_is in
    let at = length items - (copied + 1) in
    let shown_here : get_or entries (length entries - (copied + 1)) entry ≡ entry =
    ap (λ n. get_or entries (n - (copied + 1)) entry) (sym same_length) ∙ ap (λ es. get_or es at entry) (sym are) ∙ ap (get_or (each shown items) at) entry_is
    ∙ get_or-map shown items at item (shown item) (omega (arith, within)) ∙ ap shown here ∙ sym entry_is in
    let more = one_more entries copied entry (subst (λ n. copied < n) same_length within) shown_here in
    record {
      umask = ap (λ tree. tree.umask) c.in_ok-insert.ensures.ok ∙ c.loop-copied.invariant.umask;
      nodes =
          ap (λ tree. tree.nodes) c.in_ok-insert.ensures.ok ∙ ap (λ nodes. finite.insert nodes entry.0 entry.1) c.loop-copied.invariant.nodes
          ∙ ap (λ n. finite.insert (map_of (drop (n - copied) entries)) entry.0 entry.1) same_length ∙ sym more
          ∙ ap (λ n. map_of (drop (n - (copied + 1)) entries)) (sym same_length);
    }

pub returns : goal.returns
returns c =
    let entries = finite.entries c.args.self.now.nodes in
    let none_left : length c.in_ok-entries.entries.items - c.loop-copied.copied ≡ 0 = search rules in
    let at_end : drop (length c.in_ok-entries.entries.items - c.loop-copied.copied) entries ≡ entries = ap (λ n. drop n entries) none_left in
    λ i. record {
      umask = c.loop-copied.invariant.umask i;
      nodes = (c.loop-copied.invariant.nodes ∙ ap map_of at_end ∙ map_of_entries c.args.self.now.nodes) i;
    }

use Rattle.std.proofs.Common.{rules}
use Rattle.std.proofs.lemmas.List.Sorted.{answers_always}
use Rattle.acl_names.proofs.Indexes.{index_from_sorted}
use Rattle.acl_names.proofs.directory.named.index_by_id.Goals as goal

pub returns-clause-index : goal.returns-clause-index
returns-clause-index g c =
    let moved = rw c.in_ok-index.ensures.entries at c.sort_unstable_by_key.ensures.permutation in
    index_from_sorted g.T.Named.id_of c.args.members.now c.sort_unstable_by_key.new.self.items c.requires moved
    (c.sort_unstable_by_key.ensures.sorted (λ entry. entry.0) (answers_always _ _ _ (λ f a r q called. search rules)))

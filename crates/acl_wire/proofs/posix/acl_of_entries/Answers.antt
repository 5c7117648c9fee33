use Rattle.std.proofs.lemmas.List.Sorted.{length_permutation}
use Rattle.acl_wire.proofs.posix.acl_of_entries.Goals as goal

pub returns-in-Ok-clause-count : goal.returns-in-Ok-clause-count
returns-in-Ok-clause-count c = length_permutation c.args.entries c.in-Ok.acl c.in-Ok.ensures.same_entries

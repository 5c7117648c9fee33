use Rattle.acl_tree_queries.proofs.DraftLemmas.{draft_decides_as_checks}
use Rattle.acl_tree_queries.proofs.laws.draft_laws.Goals as goal

pub returns : goal.returns
returns c = record { checks = draft_decides_as_checks }

use Rattle.std.proofs.Common.{◌≡◌, ◌++◌, length}
use Rattle.acl_listing_queries.specs.PathWord.{as_listed}
use Rattle.acl_listing_queries.proofs.why.path_word.as_listed.Given as goal

-- what was read, and what the rest says, is what the word says
abbrev pub invariant-loop-rest : goal.invariant-loop-rest
invariant-loop-rest l = record {
  path : l.path.items ++ as_listed l.rest ≡ as_listed l.word;
}

abbrev pub decreases-loop-rest : goal.decreases-loop-rest
decreases-loop-rest l = length l.rest

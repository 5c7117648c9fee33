use Rattle.std.proofs.Common.{◌≡◌, [], fold, take}
use Rattle.std.specs.List.{enumerate_from, flat_map}
use Rattle.acl_listing_queries.specs.Via.{number_words, with_word}
use Rattle.acl_listing_queries.proofs.who.via.nfs4.numbers.Given as goal

-- the numbers of the entries so far
abbrev pub invariant-loop-place : goal.invariant-loop-place
invariant-loop-place l = l.out.items ≡ fold with_word [] (flat_map (number_words l.places) (enumerate_from 0 (take l.place l.aces)))

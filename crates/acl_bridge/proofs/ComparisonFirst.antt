-- The first of some requests that lists don't grant alike, as a loop over them finds it.
use Rattle.std.proofs.Common.{List, map}
use Rattle.std.specs.List.{AllByRecursion}
use Rattle.acl_posix.specs.Perms.{bits_of}
use Rattle.acl_posix.specs.declared.perms.Perms.{Perms}
use Rattle.acl_nfs4.specs.declared.comparison.Difference.{Difference}
use Rattle.acl_bridge.specs.Comparison.{GrantAlikeToAll, Granter, IsFirstDifference}

module _ (before after : Granter) (requests : List Perms) where
  -- what holds of these, the rest, holds of all of the requests
  abbrev pub AreLeft : List Perms → Type 0
  AreLeft rest =
      ((difference : Difference) → IsFirstDifference before after (map bits_of rest) difference
      → IsFirstDifference before after (map bits_of requests) difference)
      × (AllByRecursion (GrantAlikeToAll before after) (map bits_of rest)
      → AllByRecursion (GrantAlikeToAll before after) (map bits_of requests))

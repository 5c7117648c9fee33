use Rattle.std.proofs.Common.{◌≡◌, false, length, List, Some}
use Rattle.std.specs.List.{list_any}
use Rattle.acl_listing_queries.specs.Readings.{Reading}
use Rattle.acl_listing_queries.specs.Ways.{those_above}
use Rattle.acl_listing_queries.specs.WhoSteps.{AreFolders, IsChain, lacks_path}
use Rattle.acl_listing_queries.specs.declared.who.answers.Users.{Users}
use Rattle.acl_listing_queries.proofs.who.way.leave.Given as goal

-- these are left of a way, of which the rest isn't above the path
abbrev pub invariant-loop-folder : goal.invariant-loop-folder
invariant-loop-folder l =
    (users : Users) (way : List Reading) (here : Reading) → here.path ≡ Some l.path → IsChain way → list_any lacks_path way ≡ false → AreFolders users l.fn.folders.items way
    → (left : List Reading) × AreFolders users l.folders.items left × IsChain left × (list_any lacks_path left ≡ false) × (those_above here left ≡ those_above here way)

abbrev pub decreases-loop-folder : goal.decreases-loop-folder
decreases-loop-folder l = length l.folders.items

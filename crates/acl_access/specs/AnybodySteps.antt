-- Which of the others were compared. Private steps, which no public clause cites.
use Rattle.std.specs.Prelude.{◌≡◌, ℕ, false, List, Option, MatchOption}
use Rattle.acl_names.specs.Requester.{Identity}
use Rattle.acl_nfs4.specs.Comparison.{AsksPairs, IsStrangerTo, is_known}
use Rattle.acl_nfs4.specs.declared.comparison.Difference.{Difference}
use Rattle.acl_nfs4.specs.declared.who.Who.{Who}
use Rattle.acl_bridge.specs.Files.{view_acl}
use Rattle.acl_access.specs.Changes.{IsAlikeTo, IsSomebody}
use Rattle.acl_access.specs.declared.anybody.Others.{Others}

-- this requester is granted the same, if it is one of the others
abbrev pub IsOtherAlike : Others → Identity → Type 0
IsOtherAlike others who = is_known others.known.now who.uid ≡ false
    → IsAlikeTo (view_acl others.before.now) (view_acl others.after.now) who

abbrev pub DiffersFor : Others → Difference → Type 0
DiffersFor others difference =
    IsSomebody others.known.now (view_acl others.before.now) (view_acl others.after.now) difference

-- what was found among the requesters of pairs of entries, with a stranger who is one of the others
abbrev pub FindsAmong : {E : Type 0} → (E → Who) → List E → List E → Others → Option Difference
    → Type 0
FindsAmong who first second others found = (stranger : ℕ)
    × IsStrangerTo who first others.before.now.owners.owner second others.after.now.owners.owner
    others.known.now stranger
    × MatchOption found
    (AsksPairs who first second others.before.now.owners others.after.now.owners stranger
    (IsOtherAlike others))
    (DiffersFor others)

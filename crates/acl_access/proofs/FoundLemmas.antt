-- What a comparison of lists finds, as what somebody loses and gains.
use Rattle.std.proofs.Common.{inl, inr, ℕ, List, [], ◌∷◌, Option, Some, None, MatchOption}
use Rattle.std.specs.List.{AllByRecursion}
use Rattle.acl_names.specs.Asker.{identity_of}
use Rattle.acl_names.specs.Requester.{Identity}
use Rattle.acl_nfs4.specs.Comparison.{Decider, IsDifference}
use Rattle.acl_nfs4.specs.declared.comparison.Difference.{Difference}
use Rattle.acl_bridge.specs.Comparison.{GrantAlikeToAll, Granter, IsFirstDifference}
use Rattle.acl_bridge.specs.Files.{File, decider_of, may}
use Rattle.acl_bridge.specs.Lists.{Finds, bits_between, requests_between}
use Rattle.acl_access.specs.Changes.{ChangesBits, ChangesFirst, IsAlikeToAll, IsChangeFor, RequestsAlikeTo, change_of}

-- a difference is what its asker loses and gains
pub bits_change : (before after : Decider) (bits : ℕ) (difference : Difference) → IsDifference before after bits difference
    → ChangesBits before after bits (identity_of difference.asker) (change_of difference)
bits_change before after bits difference is = record { lost = is.lost; gained = is.gained; some = is.some }

-- the first request that isn't granted alike to all is one that the asker of its difference loses or gains
pub first_change : (before after : Granter) (requests : List ℕ) (difference : Difference) → IsFirstDifference before after requests difference
    → ChangesFirst before after requests (identity_of difference.asker) (change_of difference)
first_change before after [] difference never = never
first_change before after (request ∷ more) difference (inl is) = inl (record { apart = is.apart; lost = is.lost; gained = is.gained })
first_change before after (request ∷ more) difference (inr (same, later)) =
    inr (same (identity_of difference.asker), first_change before after more difference later)

-- requests that are granted alike to all are granted alike to each
pub alike_to : (before after : Granter) (requests : List ℕ) (requester : Identity) → AllByRecursion (GrantAlikeToAll before after) requests
    → RequestsAlikeTo before after requests requester
alike_to before after [] requester all = tt
alike_to before after (request ∷ more) requester (here, later) = (here requester, alike_to before after more requester later)

-- nobody was found, and everyone is decided about alike; or somebody who isn't
abbrev pub FindsAmongAll : File → File → Option Difference → Type 0
FindsAmongAll before after found =
    MatchOption found (IsAlikeToAll before after) (λ difference. IsChangeFor before after (identity_of difference.asker) (change_of difference))

-- what was found of the lists is what is found of the files
pub found : (before after : File) (difference : Option Difference) → Finds before after difference → FindsAmongAll before after difference
found before after None (bits, requests) =
    λ requester. record {
      bits = bits requester;
      requests = alike_to (may before) (may after) (requests_between before.list after.list) requester requests;
    }
found before after (Some difference) (inl bits) = inl (bits_change (decider_of before) (decider_of after) (bits_between before.list after.list) difference bits)
found before after (Some difference) (inr (same, whole)) =
    inr (same (identity_of difference.asker), first_change (may before) (may after) (requests_between before.list after.list) difference whole)

-- What `compare` reports is what `impact` reports for files that have the lists.
use Rattle.std.proofs.Common.{ℕ, List, [], ◌∷◌, Some, None}
use Rattle.std.specs.List.{AllByRecursion}
use Rattle.acl_names.specs.Requester.{Identity}
use Rattle.acl_bridge.specs.Comparison.{GrantAlikeToAll, Granter}
use Rattle.acl_bridge.specs.Files.{may}
use Rattle.acl_bridge.specs.Lists.{requests_between}
use Rattle.acl_access.specs.Changes.{RequestsAlikeTo}
use Rattle.acl_access.proofs.FoundLemmas.{found}
use Rattle.acl_queries.specs.Differences.{first_file, second_file}
use Rattle.acl_listing_changes.specs.AlikeLaws.{AlikeListsAreAlikeFiles, DifferencesAreChanges}

-- requests that are granted alike to each are granted alike to all
to_all : (before after : Granter) (requests : List ℕ) → ((requester : Identity) → RequestsAlikeTo before after requests requester)
    → AllByRecursion (GrantAlikeToAll before after) requests
to_all before after [] each = tt
to_all before after (request ∷ more) each = (λ requester. (each requester).0, to_all before after more (λ requester. (each requester).1))

pub alike_lists_are_alike_files : AlikeListsAreAlikeFiles
alike_lists_are_alike_files compared =
    let first = first_file compared in
    let second = second_file compared in (
      found first second None,
      λ files. (
        λ requester. (files requester).bits,
        to_all (may first) (may second) (requests_between compared.first compared.second) (λ requester. (files requester).requests),
      ),
    )

pub differences_are_changes : DifferencesAreChanges
differences_are_changes compared difference = found (first_file compared) (second_file compared) (Some difference)

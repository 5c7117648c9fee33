-- `compare` and `impact` report by one meaning for whom two lists differ.
use Rattle.std.specs.Prelude.{◌↔◌}
use Rattle.acl_names.specs.Asker.{identity_of}
use Rattle.acl_nfs4.specs.declared.comparison.Difference.{Difference}
use Rattle.acl_access.specs.Changes.{IsAlikeToAll, IsChangeFor, change_of}
use Rattle.acl_queries.specs.Compared.{Compared}
use Rattle.acl_queries.specs.Differences.{AreAlike, Differ, first_file, second_file}

-- Lists are alike exactly if files of one owner and group that have them decide alike about
-- everyone.
abbrev pub AlikeListsAreAlikeFiles : Type 0
AlikeListsAreAlikeFiles = (compared : Compared) → AreAlike compared
    ↔ IsAlikeToAll (first_file compared) (second_file compared)

-- What lists differ in is what the asker loses and gains where the one becomes the other.
abbrev pub DifferencesAreChanges : Type 0
DifferencesAreChanges = (compared : Compared) (difference : Difference) → Differ compared difference
    → IsChangeFor (first_file compared) (second_file compared) (identity_of difference.asker)
    (change_of difference)

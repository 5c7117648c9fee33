-- What two lists grant differently, and how that is printed.
use Rattle.std.specs.Prelude.{◌≡◌, ◌⊎◌, ◌==◌, ℕ, List, ◌∷◌, ◌++◌, Option, Some, None, codes}
use Rattle.std.specs.Prelude.{decimal, if◌then◌else◌, true}
use Rattle.clap.specs.Words.{Row}
use Rattle.acl_names.specs.Bytes.{comma}
use Rattle.acl_names.specs.Letters.{letters_text}
use Rattle.acl_nfs4.specs.Letters.{mask_table}
use Rattle.acl_nfs4.specs.Mask.{mask_bits}
use Rattle.acl_nfs4.specs.declared.comparison.Difference.{Difference}
use Rattle.acl_nfs4.specs.declared.owners.Owners.{Owners}
use Rattle.acl_bridge.specs.Files.{File, file_with}
use Rattle.acl_bridge.specs.Lists as lists
use Rattle.acl_cli.specs.Commands.{Meaning}
use Rattle.acl_queries.specs.Compared.{Compared, compared_in}
use Rattle.acl_queries.specs.Queries.{query_meaning}

-- the owner and the group of the file for which the lists are compared
abbrev pub owners_of : Compared → Owners
owners_of compared = record { owner = compared.owner; group = compared.group }

-- that file with the one list, and with the other
abbrev pub first_file : Compared → File
first_file compared = file_with (owners_of compared) compared.first

abbrev pub second_file : Compared → File
second_file compared = file_with (owners_of compared) compared.second

-- both grant every requester the same, of whatever uid and groups
abbrev pub AreAlike : Compared → Type 0
AreAlike compared = lists.AreAlike (first_file compared) (second_file compared)

-- someone loses or gains this
abbrev pub Differ : Compared → Difference → Type 0
Differ compared = lists.Differ (first_file compared) (second_file compared)

-- the requester's groups, with commas (44), each once; - if there is none
abbrev pub gids_text : Option ℕ → Option ℕ → List ℕ
gids_text None None = codes "-"
gids_text (Some gid) None = decimal gid
gids_text None (Some gid) = decimal gid
gids_text (Some gid) (Some other) = if gid == other then decimal gid
    else decimal gid ++ comma ∷ decimal other

-- the letters of the bits; - if there is none
abbrev pub bits_text : ℕ → List ℕ
bits_text bits = if bits == 0 then codes "-" else letters_text mask_table bits

-- the requester, what is lost and what is gained, each on a line of its own
abbrev pub difference_text : Difference → List ℕ
difference_text difference =
    codes "differ\nrequester " ++ decimal difference.asker.uid ++ codes " "
    ++ gids_text difference.asker.gid difference.asker.other_gid
    ++ codes "\nlost " ++ bits_text (mask_bits difference.lost)
    ++ codes "\ngained " ++ bits_text (mask_bits difference.gained) ++ codes "\n"

abbrev pub alike_text : List ℕ
alike_text = codes "alike\n"

-- the answer for a difference, or for none
abbrev pub comparison_text : Option Difference → List ℕ
comparison_text None = alike_text
comparison_text (Some difference) = difference_text difference

-- The text is an answer: it says that the lists are alike, and they are; or it prints a difference,
-- and it is one. Which one, if there are several, isn't fixed.
abbrev pub IsComparison : Compared → List ℕ → Type 0
IsComparison compared text =
    (AreAlike compared × (text ≡ alike_text))
    ⊎ ((difference : Difference) × Differ compared difference × (text ≡ difference_text difference))

-- what the fields of `compare` mean
abbrev pub compare_meaning : List Row → Meaning
compare_meaning = query_meaning true compared_in IsComparison

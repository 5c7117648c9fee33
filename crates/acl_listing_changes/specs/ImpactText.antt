-- How it is reported what changed for somebody.
use Rattle.std.specs.Prelude.{ℕ, Bool, true, false, List, [], ◌∷◌, ◌++◌, Option, Some, None, codes}
use Rattle.std.specs.Prelude.{decimal}
use Rattle.std.specs.List.{flat_map}
use Rattle.acl_names.specs.Bytes.{comma}
use Rattle.acl_nfs4.specs.Mask.{mask_bits}
use Rattle.acl_nfs4.specs.declared.comparison.Difference.{Difference}
use Rattle.acl_queries.specs.Differences.{bits_text, gids_text}
use Rattle.acl_people.specs.Person.{Person}

-- the gids of a user, between commas (44); - if there is none
abbrev pub all_gids_text : List ℕ → List ℕ
all_gids_text [] = codes "-"
all_gids_text (gid ∷ gids) = decimal gid ++ flat_map (λ other. comma ∷ decimal other) gids

-- `differ NAME UID GIDS LOST GAINED PATH`, where what is lost and gained are bits of masks
abbrev pub differ_text : List ℕ → ℕ → List ℕ → ℕ → ℕ → List ℕ → List ℕ
differ_text name uid gids lost gained path = codes "differ " ++ name ++ codes " " ++ decimal uid
    ++ codes " " ++ gids ++ codes " " ++ bits_text lost ++ codes " " ++ bits_text gained
    ++ codes " " ++ path ++ codes "\n"

-- of one who is asked about
abbrev pub person_text : Person → ℕ → ℕ → List ℕ → List ℕ
person_text person lost gained path = differ_text person.name person.who.uid
    (all_gids_text person.who.gids) lost gained path

-- of somebody else, who is in at most two groups
abbrev pub somebody_text : Difference → List ℕ → List ℕ
somebody_text found path = differ_text (codes "-") found.asker.uid
    (gids_text found.asker.gid found.asker.other_gid) (mask_bits found.lost)
    (mask_bits found.gained) path

-- `new PATH`, and `gone PATH`
abbrev pub new_text : List ℕ → List ℕ
new_text path = codes "new " ++ path ++ codes "\n"

abbrev pub gone_text : List ℕ → List ℕ
gone_text path = codes "gone " ++ path ++ codes "\n"

-- of a path that is gone, or else new
abbrev pub path_text : Bool → List ℕ → List ℕ
path_text true path = gone_text path
path_text false path = new_text path

-- the line of somebody, if there is one
abbrev pub line_at : (Person → List ℕ) → Option Person → List ℕ
line_at line None = []
line_at line (Some person) = line person

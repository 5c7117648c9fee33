-- `impact --reach` reports where the answers of `who --reach` differ.
use Rattle.std.specs.Prelude.{◌≡◌, ◌↔◌, ℕ, List, [], Some, slice_get}
use Rattle.std.specs.List.{enumerate_from, flat_map}
use Rattle.acl_access.specs.Letters.{effective}
use Rattle.acl_posix.specs.PermsText.{perms_text}
use Rattle.acl_bridge.specs.Files.{File}
use Rattle.acl_people.specs.Person.{Person}
use Rattle.acl_listing_queries.specs.WhoText.{Numbers, ThreeLetters, letters_line_if, person_line}
use Rattle.acl_listing_queries.specs.WhoText.{who_text}
use Rattle.acl_listing_reach.specs.ReachText.{line_for, number_at}

-- What `who --reach` reports for a file is, of each who is asked about, the line of the letters
-- that are kept.
abbrev pub LettersAreThoseOfWho : Type 0
LettersAreThoseOfWho = (persons : List Person) (way : List File) (path : List ℕ) (file : File)
    → who_text persons ThreeLetters way path file
    ≡ flat_map (λ here. letters_line_if perms_text path here.1.name
    (number_at (who_text persons Numbers way path file) here.0)) (enumerate_from 0 persons)

-- Of one file on its way that becomes another on its own, there is no line of somebody exactly if
-- `who --reach` reports the same of both.
abbrev pub LinesAreWhereAnswersDiffer : Type 0
LinesAreWhereAnswersDiffer = (persons : List Person) (place : ℕ) (person : Person)
    → slice_get persons place ≡ Some person
    → (path : List ℕ) (way : List File) (file : File) (other_way : List File) (other : File)
    → (line_for (who_text persons Numbers way path file)
    (who_text persons Numbers other_way path other) path (place, person) ≡ [])
    ↔ (person_line perms_text effective way path file person
    ≡ person_line perms_text effective other_way path other person)

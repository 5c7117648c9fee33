-- What changed for whom by reach, path by path.
use Rattle.std.specs.Prelude.{ℕ, ◌==◌, Bool, true, false, List, [], ◌∷◌, ◌++◌, Option, Some, None}
use Rattle.std.specs.Prelude.{get_or, map, if◌then◌else◌}
use Rattle.std.specs.List.{enumerate_from, flat_map}
use Rattle.acl_names.specs.Bits.{without}
use Rattle.acl_access.specs.Paths.{printed_path}
use Rattle.acl_bridge.specs.Comparison.{mask_for}
use Rattle.acl_cli.specs.Reporting.{is_empty}
use Rattle.acl_people.specs.Person.{Person}
use Rattle.acl_listing_changes.specs.ImpactText.{path_text, person_text}
use Rattle.acl_listing_reach.specs.Once.{At, has_path, letters_for}

-- the users to evaluate; whether each affected user has a line, and not only the first; and whether
-- the exit status reports that there is a line
pub record ReachAsking : Type 0 where
  pub persons : List Person
  pub each : Bool
  pub asks : Bool

-- the number of the letters at a place: 4 for r, 2 for w, 1 for x; where there are none, 0
abbrev pub number_at : List ℕ → ℕ → ℕ
number_at letters place = get_or letters place 0

-- the line of somebody who had the one letters and has the other ones, if they differ
abbrev pub change_line : ℕ → ℕ → List ℕ → Person → List ℕ
change_line old new path person = if old == new then []
    else person_text person (mask_for (without old new)) (mask_for (without new old)) path

-- of the user at a place
abbrev pub line_for : List ℕ → List ℕ → List ℕ → ℕ × Person → List ℕ
line_for old new path here =
    change_line (number_at old here.0) (number_at new here.0) path here.1

-- the lines of all of these people, and the first line that there is
abbrev pub all_lines : List Person → List ℕ → List ℕ → List ℕ → List ℕ
all_lines persons old new path = flat_map (line_for old new path) (enumerate_from 0 persons)

abbrev pub first_of : List (List ℕ) → List ℕ
first_of [] = []
first_of (line ∷ lines) = if is_empty line then first_of lines else line

abbrev pub first_line : List Person → List ℕ → List ℕ → List ℕ → List ℕ
first_line persons old new path = first_of (map (line_for old new path) (enumerate_from 0 persons))

-- of a file at a path that had the one letters and has the other ones
abbrev pub differ_text : ReachAsking → List ℕ → List ℕ → List ℕ → List ℕ
differ_text asking old new path = if asking.each then all_lines asking.persons old new path
    else first_line asking.persons old new path

-- of a path with these letters that is gone, or else new: then each loses all or gains all
abbrev pub all_at : Bool → List Person → List ℕ → List ℕ → List ℕ
all_at true persons letters path = all_lines persons letters [] path
all_at false persons letters path = all_lines persons [] letters path

abbrev pub alone_text : Bool → ReachAsking → List ℕ → List ℕ → List ℕ
alone_text gone asking letters path = path_text gone path
    ++ (if asking.each then all_at gone asking.persons letters path else [])

-- of a path of the listing after, with these letters, by what is known of it before, if the listing
-- before has it
abbrev pub since_text : ReachAsking → Option (Option (List ℕ)) → List ℕ → List ℕ → List ℕ
since_text asking None new path = alone_text false asking new path
since_text asking (Some None) new path = []
since_text asking (Some (Some old)) new path = differ_text asking old new path

-- if its letters are known
abbrev pub after_by : ReachAsking → Option (Option (List ℕ)) → Option (List ℕ) → List ℕ → List ℕ
after_by asking was None path = []
after_by asking was (Some new) path = since_text asking was new (printed_path path)

abbrev pub after_text : ReachAsking → List At → At → List ℕ
after_text asking before at = after_by asking (letters_for at.path before) at.letters at.path

-- of a path of the listing before, if the listing after hasn't it
abbrev pub gone_by : ReachAsking → Bool → Option (List ℕ) → List ℕ → List ℕ
gone_by asking true letters path = []
gone_by asking false None path = []
gone_by asking false (Some old) path = alone_text true asking old (printed_path path)

abbrev pub gone_text : ReachAsking → List At → At → List ℕ
gone_text asking after at = gone_by asking (has_path at.path after) at.letters at.path

-- of the paths of both listings
abbrev pub report_text : ReachAsking → List At → List At → List ℕ
report_text asking before after =
    flat_map (after_text asking before) after ++ flat_map (gone_text asking after) before

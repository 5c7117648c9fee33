-- What `who` reports for a block of a listing.
use Rattle.std.specs.Prelude.{ℕ, Bool, true, false, List, [], ◌∷◌, Option, Some, None, Result, Ok}
use Rattle.std.specs.Prelude.{Err, map}
use Rattle.acl_names.specs.Names.{Names}
use Rattle.acl_listings.specs.Block.{FileValue}
use Rattle.acl_listings.specs.declared.fault.BlockFault.{BlockFault}
use Rattle.acl_listings.specs.declared.fault.BlockFault.TheVariants.{UnknownWay}
use Rattle.acl_access.specs.Paths.{printed_path}
use Rattle.acl_access.specs.declared.rules.Rules.{Rules}
use Rattle.acl_bridge.specs.Files.{File}
use Rattle.acl_reports.specs.Files.{file_of, files_of}
use Rattle.acl_reports.specs.Listed.{Part}
use Rattle.acl_people.specs.Person.{Person}
use Rattle.acl_listing_queries.specs.Readings.{Reading, reading_of}
use Rattle.acl_listing_queries.specs.Ways.{is_sticky, known_way, way_of}
use Rattle.acl_listing_queries.specs.WhoText.{Asked, Numbers, deletion_text, who_text}
use Rattle.acl_listing_queries.specs.WhoText.{who_via_text}

-- what is asked about a file: what may be done with it, the same and by which entries, or who may
-- delete it
pub data Question : Type 0 where
  What : Asked → Question
  Via : Asked → Question
  Deletion : Question

-- by which names blocks are read, by which rules lists are evaluated, who is asked about, what is
-- asked, and whether only those count who may search each folder above
pub record Asking : Type 0 where
  pub names : Names
  pub rules : Rules
  pub persons : List Person
  pub question : Question
  pub reach : Bool

-- the letters r, w and x of these people by reach, as numbers
abbrev pub letters_asked : Rules → Names → List Person → Asking
letters_asked rules names persons = record {
  names = names;
  rules = rules;
  persons = persons;
  question = What Numbers;
  reach = true;
}

-- What is reported for a file on this way, of which the nearest folder has the sticky bit or not,
-- and whose path is printed so: who may delete it isn't asked where no folder above it is listed.
abbrev pub part_of : List Person → Question → Bool → List File → List ℕ → File → Part
part_of persons (What asked) sticky way path file = Ok (who_text persons asked way path file)
part_of persons (Via asked) sticky way path file = Ok (who_via_text persons asked way path file)
part_of persons Deletion sticky [] path file = Ok []
part_of persons Deletion sticky (folder ∷ above) path file =
    Ok (deletion_text persons sticky folder above path file)

-- if the way is known
abbrev pub part_on : Asking → Bool → FileValue → Option (List FileValue) → Part
part_on asking sticky file (Some way) =
    part_of asking.persons asking.question sticky (files_of asking.rules way)
    (printed_path file.path) (file_of asking.rules file)
part_on asking sticky file None = Err UnknownWay

-- of a block that says this
abbrev pub part_by : Asking → Bool → Result FileValue BlockFault → Option (List FileValue)
    → Part
part_by asking sticky (Ok file) way = part_on asking sticky file way
part_by asking sticky (Err fault) way = Err fault

-- the way that counts to a block behind these
abbrev pub way_for : Bool → List Reading → Reading → Option (List FileValue)
way_for false earlier here = Some []
way_for true earlier here = known_way earlier here

-- what `who` reports for a block, by its text and those before it
abbrev pub who_part : Asking → List (List ℕ) → List ℕ → Part
who_part asking earlier text =
    let here = reading_of asking.names text in
    let before = map (reading_of asking.names) earlier in
    part_by asking (is_sticky (way_of before here)) here.file (way_for asking.reach before here)

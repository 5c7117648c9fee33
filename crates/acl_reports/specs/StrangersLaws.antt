-- What is counted of the files that name ids without an account.
use Rattle.std.specs.Prelude.{◌≡◌, ℕ, List, Ok, Option, is_some, length, option_map, slice_get}
use Rattle.std.specs.List.{filter_map}
use Rattle.acl_listings.specs.Block.{FileValue, file_by}
use Rattle.acl_listings.specs.Lines.{after_line}
use Rattle.acl_people.specs.Host.{Host, names_of_host}
use Rattle.acl_reports.specs.Listed.{Item, strangers_with}
use Rattle.acl_reports.specs.Strangers.{first_of, names_stranger, no_strangers}
use Rattle.acl_reports.specs.Strangers.{stranger_behind}
use Rattle.acl_reports.specs.declared.stranger.Stranger.{Stranger}
use Rattle.acl_reports.specs.declared.strangers.FirstStranger.{FirstStranger}

-- the first such id that a file names, with its line in the listing
abbrev pub sighting : (List ℕ → Option Stranger) → Item → Option FirstStranger
sighting stranger item = option_map (first_of item.block.line) (stranger item.block.text)

-- as many files are counted as name one, and the first's is kept
abbrev pub CountsStrangers : Type 0
CountsStrangers = (stranger : List ℕ → Option Stranger) (items : List Item) →
    let sightings = filter_map (sighting stranger) items in
    strangers_with stranger no_strangers items
    ≡ record { files = length sightings; first = slice_get sightings 0 }

-- a file names such an id exactly if a line of its block does, behind the first
abbrev pub StrangersStandInLines : Type 0
StrangersStandInLines = (host : Host) (text : List ℕ) (file : FileValue)
    → file_by (names_of_host host) text ≡ Ok file
    → names_stranger host file ≡ is_some (stranger_behind host (after_line text))

-- What `who` prints on standard output: what has to be read to trust its answers, without faults,
-- counts and failures.
use Rattle.std.specs.Prelude.{ℕ, List, Option}
use Rattle.clap.specs.Words.{Row, Text}
use Rattle.acl_reports.specs.Listed.{Part}
use Rattle.acl_reports.specs.ListingMeaning.{bytes_named, listing_in}
use Rattle.acl_reports.specs.Output.{Prints}
use Rattle.acl_listing_queries.specs.WhoMeaning.{WhoAsked, asking_in}
use Rattle.acl_listing_queries.specs.WhoPart.{who_part}

-- the files say who there is, the words whom and what they ask about, and the text is all of what
-- is reported, or part of it
abbrev pub WhoPrintsBy : ((List (List ℕ) → List ℕ → Part) → Option (List ℕ) → List ℕ → Type 0)
    → (Text → Option (List ℕ)) → Option (List ℕ) → List Row → List ℕ → Type 0
WhoPrintsBy Is bytes_of input rows text = (asked : WhoAsked bytes_of rows)
    × Is (who_part (asking_in rows asked)) (bytes_named bytes_of input (listing_in rows)) text

abbrev pub WhoPrints : (Text → Option (List ℕ)) → Option (List ℕ) → List Row → List ℕ → Type 0
WhoPrints = WhoPrintsBy Prints

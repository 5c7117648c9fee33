-- What is reported of two listings by accounts that are read. Private steps, which no public clause
-- cites.
use Rattle.std.specs.Prelude.{ℕ, List, Option}
use Rattle.clap.specs.Words.{Row, Text}
use Rattle.acl_cli.specs.Commands.{Meaning}
use Rattle.acl_people.specs.Host.{Host}
use Rattle.acl_people.specs.Person.{Person}
use Rattle.acl_reports.specs.RulesMeaning.{rules_in}
use Rattle.acl_listing_changes.specs.ChangeMeaning.{after_in, before_in}
use Rattle.acl_listing_reach.specs.ReachMeaning.{reach_asked, reach_source}
use Rattle.acl_listing_reach.specs.Sources.{sources_meaning}

-- of these people by these accounts before, and of the others after
abbrev pub asked_meaning : (Text → Option (List ℕ)) → Option (List ℕ) → List Row → Host
    → List Person → Host → List Person → Meaning
asked_meaning bytes_of input rows host persons other others =
    sources_meaning (reach_asked persons rows)
    (reach_source bytes_of input (rules_in rows) host persons (before_in rows))
    (reach_source bytes_of input (rules_in rows) other others (after_in rows))

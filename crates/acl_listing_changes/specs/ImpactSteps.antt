-- How it is reported what changed for those who are asked about. Private steps, which no public
-- clause cites.
use Rattle.std.specs.Prelude.{◌≡◌, ℕ, Bool, true, false, List, [], Option, Some, None}
use Rattle.std.specs.Prelude.{Result, Ok, Err}
use Rattle.acl_nfs4.specs.Mask.{mask_bits}
use Rattle.acl_bridge.specs.Files.{File}
use Rattle.acl_access.specs.Changes.{IsAlikeTo, IsChangeFor}
use Rattle.acl_access.specs.declared.changes.Change.{Change}
use Rattle.acl_listings.specs.Block.{FileValue}
use Rattle.acl_listings.specs.declared.fault.BlockFault.{BlockFault}
use Rattle.acl_people.specs.Host.{names_of_host}
use Rattle.acl_people.specs.Person.{Person}
use Rattle.acl_reports.specs.Strangers.{stranger_in}
use Rattle.acl_listing_changes.specs.ImpactText.{person_text}
use Rattle.acl_listing_changes.specs.Concerns.{concern_by}
use Rattle.acl_listing_changes.specs.Impacting.{ImpactAsking, ReportsChange}
use Rattle.acl_listing_changes.specs.declared.impact.asked.One.{One}
use Rattle.acl_listing_changes.specs.declared.impact.reporter.ImpactReporter.{ImpactReporter}

abbrev pub view_one : One → Person
view_one one = record { name = one.name.now; who = one.requester.now }

abbrev pub asking_by : ImpactReporter → ImpactAsking
asking_by reporter = record {
  names = names_of_host reporter.host.now;
  stranger = stranger_in reporter.host.now;
  rules = reporter.rules;
  concern = concern_by reporter.people.now reporter.each reporter.somebody;
  written = reporter.written;
  asks = reporter.asks;
}

-- what is reported for a file, where this is what its block before says
abbrev pub ReportsRead : ImpactAsking → Result FileValue BlockFault → FileValue → List ℕ → Type 0
ReportsRead asking (Ok before) after text = ReportsChange asking before after text
ReportsRead asking (Err fault) after text = text ≡ []

-- the line of somebody whom a change concerns, and of somebody whom it doesn't
abbrev pub ReportsBy : Bool → File → File → List ℕ → Person → List ℕ → Type 0
ReportsBy true before after path person text = (change : Change)
    × IsChangeFor before after person.who change
    × (text ≡ person_text person (mask_bits change.lost) (mask_bits change.gained) path)
ReportsBy false before after path person text =
    IsAlikeTo before after person.who × (text ≡ [])

-- of who is at a place, if somebody is
abbrev pub ReportsAt : Bool → File → File → List ℕ → Option Person → List ℕ → Type 0
ReportsAt some before after path None text = (some ≡ false) × (text ≡ [])
ReportsAt some before after path (Some person) text = ReportsBy some before after path person text

-- Private steps of `next`, which no public clause cites.
use Rattle.std.specs.Prelude.{◌≡◌, ℕ, List}
use Rattle.acl_people.specs.Host.{names_of_host}
use Rattle.acl_listing_creation.specs.Next.{NextAsking, pending_behind}
use Rattle.acl_listing_creation.specs.declared.reporter.NextReporter.{NextReporter}

abbrev pub asking_of : NextReporter → NextAsking
asking_of reporter = record {
  names = names_of_host reporter.host.now;
  creation = reporter.creation;
  folders_alone = reporter.folders_alone;
}

-- what is known of the last block is so behind these texts
abbrev pub StandsBehind : NextReporter → List (List ℕ) → Type 0
StandsBehind reporter earlier = reporter.pending ≡ pending_behind (asking_of reporter) earlier

-- What the fields of `restore` mean.
use Rattle.std.specs.Prelude.{ℕ, List, Option}
use Rattle.clap.specs.Words.{Row, Text}
use Rattle.acl_cli.specs.Commands.{Meaning}
use Rattle.acl_listing_changes.specs.ChangeMeaning.{after_in, before_in, change_meaning}
use Rattle.acl_listing_changes.specs.Restoring.{restoring}

abbrev pub restore_meaning : (Text → Option (List ℕ)) → Option (List ℕ) → List Row → Meaning
restore_meaning bytes_of input rows =
    change_meaning restoring bytes_of input (before_in rows) (after_in rows)

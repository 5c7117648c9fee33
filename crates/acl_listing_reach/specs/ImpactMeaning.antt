-- What the fields of `impact` mean, of two listings.
use Rattle.std.specs.Prelude.{ℕ, Bool, true, false, List, Option, Some, None, codes, is_some}
use Rattle.clap.specs.Words.{Row, Text, first_of}
use Rattle.clap.specs.declared.error.kind.ErrorKind.{ErrorKind}
use Rattle.clap.specs.declared.error.kind.ErrorKind.TheVariants.{ArgumentConflict}
use Rattle.clap.specs.declared.error.kind.ErrorKind.TheVariants.{MissingRequiredArgument}
use Rattle.acl_cli.specs.Commands.{Meaning}
use Rattle.acl_cli.specs.Fields.{flag_in}
use Rattle.acl_cli.specs.Usage.{IsUsage}
use Rattle.acl_listing_changes.specs.ImpactMeaning.{lists_meaning}
use Rattle.acl_listing_reach.specs.ReachMeaning.{reach_meaning}

-- the one if it is asked for, and else the other
abbrev pub meaning_if : Bool → Meaning → Meaning → Meaning
meaning_if true asked other = asked
meaning_if false asked other = other

-- what is wrong with words that ask by other accounts, but not by reach; and by reach, but also
-- what is written otherwise
abbrev pub misfit_of : Bool → Bool → Bool → Option ErrorKind
misfit_of true after true = Some ArgumentConflict
misfit_of true after false = None
misfit_of false true text = Some MissingRequiredArgument
misfit_of false false text = None

abbrev pub misfit_in : List Row → Option ErrorKind
misfit_in rows = misfit_of (flag_in (codes "reach") rows)
    (is_some (first_of (codes "accounts-after") rows)) (flag_in (codes "text") rows)

-- words that are wrong together have no answer
abbrev pub unless_misfit : Option ErrorKind → Meaning → Meaning
unless_misfit (Some kind) meaning = record {
  Answers = λ answer. ⊥;
  Begins = λ answer. ⊥;
  Fails = IsUsage kind;
  inputs = 0;
}
unless_misfit None meaning = meaning

-- what changed by reach, if the words say so, and else by the lists of files alone
abbrev pub impact_meaning : (Text → Option (List ℕ)) → Option (List ℕ) → List Row → Meaning
impact_meaning bytes_of input rows = unless_misfit (misfit_in rows)
    (meaning_if (flag_in (codes "reach") rows) (reach_meaning bytes_of input rows)
    (lists_meaning bytes_of input rows))

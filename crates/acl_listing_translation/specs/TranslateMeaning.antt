-- What the fields of `translate` mean.
use Rattle.std.specs.Prelude.{◌≡◌, ◌⊎◌, ℕ, List, Option, Some, None, Result, Ok, Err, bytes_eq}
use Rattle.std.specs.Prelude.{IsOk, codes, if◌then◌else◌}
use Rattle.clap.specs.Words.{Row, Text}
use Rattle.acl_names.specs.Names.{Names}
use Rattle.acl_cli.specs.Commands.{Answer, Meaning}
use Rattle.acl_cli.specs.Failures.{Explains}
use Rattle.acl_cli.specs.Fields.{flag_in, of_option}
use Rattle.acl_cli.specs.declared.failure.Failure.{Failure}
use Rattle.acl_cli.specs.Faults.{Malformed}
use Rattle.acl_cli.specs.declared.field_fault.FieldFault.{FieldFault}
use Rattle.acl_cli.specs.declared.field_fault.FieldFault.TheVariants.{BadStyle}
use Rattle.acl_people.specs.Host.{Host, IsHost, names_of_host}
use Rattle.acl_people.specs.HostFailures.{IsHostFailure}
use Rattle.acl_reports.specs.Listed.{AnswersListing, BeginsListing, Part}
use Rattle.acl_reports.specs.ListingMeaning.{FailsForListing, bytes_named, inputs_of}
use Rattle.acl_reports.specs.ListingMeaning.{listing_in}
use Rattle.acl_listing_translation.specs.Translated.{translate_part}
use Rattle.acl_listing_translation.specs.declared.form.AceForm.{AceForm}
use Rattle.acl_listing_translation.specs.declared.form.AceForm.TheVariants.{Nfs4, Freebsd}

-- the form that a word names; without one it is that of nfs4
abbrev pub form_of : Option Text → Result AceForm FieldFault
form_of None = Ok Nfs4
form_of (Some text) = if bytes_eq text (codes "nfs4") then Ok Nfs4
    else if bytes_eq text (codes "freebsd") then Ok Freebsd else Err BadStyle

abbrev pub form_in : List Row → Result AceForm Malformed
form_in = of_option (codes "form") form_of

-- the files give users and groups, the words the form of the answer, and the answer follows from
-- both
pub record TranslateAnswers (Is : Text → Names → (List (List ℕ) → List ℕ → Part)
    → Option (List ℕ) → Answer → Type 0) (bytes_of : Text → Option (List ℕ))
    (input : Option (List ℕ)) (rows : List Row) (answer : Answer) : Type 0 where
  pub host : Host
  pub host_is : IsHost bytes_of rows host
  pub form : AceForm
  pub form_is : form_in rows ≡ Ok form
  pub is : Is (listing_in rows) (names_of_host host)
      (translate_part (record {
        names = names_of_host host;
        form = form;
        attributes = flag_in (codes "attributes") rows;
        pairs = flag_in (codes "print0") rows;
      })) (bytes_named bytes_of input (listing_in rows)) answer

-- the form is malformed; or it isn't, and the accounts can't be read, or the listing fails
abbrev pub FailsForTranslate : (Text → Option (List ℕ)) → List Row → Failure → Type 0
FailsForTranslate bytes_of rows failure = Explains (form_in rows) failure
    ⊎ (IsOk (form_in rows)
    × (IsHostFailure bytes_of rows failure ⊎ FailsForListing (listing_in rows) failure))

abbrev pub translate_meaning : (Text → Option (List ℕ)) → Option (List ℕ) → List Row → Meaning
translate_meaning bytes_of input rows = record {
  Answers = TranslateAnswers AnswersListing bytes_of input rows;
  Begins = TranslateAnswers BeginsListing bytes_of input rows;
  Fails = FailsForTranslate bytes_of rows;
  inputs = inputs_of (listing_in rows);
}

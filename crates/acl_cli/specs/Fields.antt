-- What fields of command lines mean, each by itself.
use Rattle.std.specs.Prelude.{◌++◌, ℕ, Bool, false, List, [], Option, Some, None, Result, Ok, Err}
use Rattle.std.specs.Prelude.{bytes_eq, codes, unwrap_or}
use Rattle.clap.specs.Words.{Text, Row, first_of}
use Rattle.acl_names.specs.Bytes.{comma}
use Rattle.acl_names.specs.Ids.{decimal_value}
use Rattle.acl_names.specs.Pieces.{parts}
use Rattle.acl_names.specs.ReadList.{at_most_read}
use Rattle.acl_names.specs.Steps.{◌>>=◌, or_fault}
use Rattle.acl_names.specs.declared.limits.TheConstants.{MAX_GROUPS_OF_USER}
use Rattle.acl_posix.specs.PermsText.{perms_of_text}
use Rattle.acl_cli.specs.Faults.{Malformed}
use Rattle.acl_cli.specs.declared.field_fault.FieldFault.{FieldFault}
use Rattle.acl_cli.specs.declared.field_fault.FieldFault.TheVariants.{BadId, BadPerms, TooMany}

-- the id that a text writes in decimal
abbrev pub id_of : Text → Result ℕ FieldFault
id_of text = or_fault BadId (decimal_value text)

-- the ids between commas, at most `MAX_GROUPS_OF_USER` of them; without a text there are none
abbrev pub gids_of : Option Text → Result (List ℕ) FieldFault
gids_of None = Ok []
gids_of (Some text) = at_most_read TooMany MAX_GROUPS_OF_USER id_of (parts comma text)

-- the permissions that a text writes
abbrev pub perms_of : Text → Result ℕ FieldFault
perms_of text = or_fault BadPerms (perms_of_text text)

-- whether a flag is set, by the value that the parser gives it
abbrev pub flag_of : Option Text → Bool
flag_of None = false
flag_of (Some text) = bytes_eq text (codes "true")

-- The fields by name, among what the parser found.

-- what is read from a word, or its fault with its place
abbrev pub located : {A : Type 0} → List ℕ → Option Text → Result A FieldFault → Result A Malformed
located place word (Ok value) = Ok value
located place word (Err fault) =
    Err (record { place = place; word = unwrap_or word []; fault = fault })

-- what is read from the value of an option
abbrev pub of_option : {A : Type 0} → Text → (Option Text → Result A FieldFault) → List Row
    → Result A Malformed
of_option name read rows =
    located (codes "--" ++ name) (first_of name rows) (read (first_of name rows))

-- what is read from a word of its own, which help calls by this name
abbrev pub of_word : {A : Type 0} → Text → List ℕ → (Option Text → Result A FieldFault) → List Row
    → Result A Malformed
of_word name place read rows = located place (first_of name rows) (read (first_of name rows))

-- a word that must be given
abbrev pub given : {A : Type 0} → FieldFault → (Text → Result A FieldFault) → Option Text
    → Result A FieldFault
given missing read word = or_fault missing word >>= read

abbrev pub id_in : Text → List Row → Result ℕ Malformed
id_in name = of_option name (given BadId id_of)

abbrev pub gids_in : List Row → Result (List ℕ) Malformed
gids_in = of_option (codes "gids") gids_of

abbrev pub perms_in : List Row → Result ℕ Malformed
perms_in = of_option (codes "perms") (given BadPerms perms_of)

-- the same, for an optional word
abbrev pub perms_given : Option Text → Result (Option ℕ) FieldFault
perms_given None = Ok None
perms_given (Some text) = do
  perms ← perms_of text
  Ok (Some perms)

abbrev pub optional_perms_in : List Row → Result (Option ℕ) Malformed
optional_perms_in = of_option (codes "perms") perms_given

abbrev pub flag_in : Text → List Row → Bool
flag_in name rows = flag_of (first_of name rows)

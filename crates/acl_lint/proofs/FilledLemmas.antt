-- No place is empty.
use Rattle.std.proofs.Common.{◌≢◌, ◌++◌, ℕ, List, [], ◌∷◌, Option, Some, None, decimal, subst}
use Rattle.std.specs.Prelude.{⊤}
use Rattle.acl_names.specs.Bytes.{colon, space}
use Rattle.acl_setup.specs.declared.fault.SetupError.{SetupError}
use Rattle.acl_setup.specs.declared.fault.SetupError.TheVariants.{NotToml, BadField, Parts, Memory}
use Rattle.acl_setup.specs.declared.key.Key.{Key}
use Rattle.acl_setup.specs.declared.key.Key.TheVariants as at
use Rattle.acl_lint.specs.LintLaws.{ReportsAPlace}
use Rattle.acl_lint.specs.LintText.{place_text, shown_piece}
use Rattle.acl_lint.specs.Places.{Piece}
use Rattle.acl_lint.specs.SetupPlace.{key_text, setup_place}

abbrev IsFilled : List ℕ → Type 0
IsFilled [] = ⊥
IsFilled (byte ∷ bytes) = ⊤

filled_right : (text : List ℕ) (byte : ℕ) (more : List ℕ) → IsFilled (text ++ byte ∷ more)
filled_right [] byte more = tt
filled_right (first ∷ bytes) byte more = tt

not_empty : (text : List ℕ) → IsFilled text → text ≢ []
not_empty text filled is = subst IsFilled is filled

of_key : (key : Key) → IsFilled (key_text key)
of_key at.Domain = tt
of_key at.Umask = tt
of_key at.Root = tt
of_key at.RootOwner = tt
of_key at.RootGroup = tt
of_key at.RootMode = tt
of_key at.RootStyle = tt
of_key at.Users = tt
of_key (at.User index) = tt
of_key (at.UserName index) = tt
of_key (at.UserUid index) = tt
of_key (at.UserGroups index) = tt
of_key (at.UserGroup index item) = tt
of_key at.Groups = tt
of_key (at.Group index) = tt
of_key (at.GroupName index) = tt
of_key (at.GroupGid index) = tt

of_setup : (error : SetupError) → IsFilled (setup_place error)
of_setup (NotToml spot) = filled_right (decimal spot.line) colon (decimal spot.column)
of_setup (BadField key) = of_key key
of_setup (Parts fault key) = of_key key
of_setup Memory = tt

of_line : (piece : Option Piece) → IsFilled (place_text piece)
of_line None = tt
of_line (Some piece) = filled_right (decimal piece.number) space (shown_piece piece.text)

pub reports_a_place : ReportsAPlace
reports_a_place = record {
  of_setup = λ error. not_empty (setup_place error) (of_setup error);
  of_line = λ piece. not_empty (place_text piece) (of_line piece);
}

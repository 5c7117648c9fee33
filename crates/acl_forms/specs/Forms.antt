-- The form of a text's entries: that of the first one.
use Rattle.std.specs.Prelude.{ℕ, Bool, true, false, List, [], ◌∷◌, Option, Some, None}
use Rattle.std.specs.Prelude.{if◌then◌else◌}
use Rattle.acl_names.specs.Bytes.{colon}
use Rattle.acl_names.specs.Pieces.{parts, pieces, trim}
use Rattle.acl_nfs4.specs.AceFields as nfs4
use Rattle.acl_forms.specs.FormText as freebsd
use Rattle.acl_forms.specs.declared.form.Form.{Form}
use Rattle.acl_forms.specs.declared.form.Form.TheVariants.{Posix, Nfs4, Freebsd}

-- there is such a type
abbrev pub is_type : {A : Type 0} → Option A → Bool
is_type None = false
is_type (Some kind) = true

-- the last of these, or the one before them if there are none
abbrev pub last_or : List ℕ → List (List ℕ) → List ℕ
last_or last [] = last
last_or last (field ∷ more) = last_or field more

-- a first field of A, D, U or L; a last field of allow, deny, audit or alarm; or neither
abbrev pub form_of_fields : List (List ℕ) → Form
form_of_fields [] = Posix
form_of_fields (first ∷ more) = if is_type (nfs4.type_of (trim first)) then Nfs4
    else (if is_type (freebsd.type_of (trim (last_or first more))) then Freebsd else Posix)

abbrev pub form_of_piece : List ℕ → Form
form_of_piece piece = form_of_fields (parts colon piece)

abbrev pub form_of_pieces : List (List ℕ) → Form
form_of_pieces [] = Posix
form_of_pieces (piece ∷ more) = form_of_piece piece

-- the form of the text's first entry; of a text without entries POSIX
abbrev pub form_of : List ℕ → Form
form_of text = form_of_pieces (pieces text)

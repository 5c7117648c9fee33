-- Private steps, which no public clause cites: the fields of an entry that a text begins with.
use Rattle.std.specs.Prelude.{◌≡◌, List, ℕ, ◌∷◌, ◌++◌}
use Rattle.acl_names.specs.Bytes.{colon}
use Rattle.acl_names.specs.Plain.{IsField}
use Rattle.acl_nfs4.specs.AceFields.{AceFields}

-- the text begins with these fields, plainly written, and this is the rest of it
pub record BeginsWithFields (text : List ℕ) (fields : AceFields) (rest : List ℕ) : Type 0 where
  pub kind : IsField fields.kind
  pub flags : IsField fields.flags
  pub who : IsField fields.who
  pub letters : IsField fields.letters
  pub cut : text ≡ fields.kind ++ colon ∷ (fields.flags
      ++ colon ∷ (fields.who ++ colon ∷ (fields.letters ++ rest)))

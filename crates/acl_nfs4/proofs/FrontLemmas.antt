-- A text that begins with the fields of an entry begins with the piece that they make.
use Rattle.std.proofs.Common.{◌≡◌, ℕ, List, [], ◌∷◌, ◌++◌, Some, Result, Ok, sym, ap, ◌∙◌, append_assoc, length-append, arith}
use Rattle.std.specs.List.{AllByRecursion, join_with_byte}
use Rattle.acl_names.specs.Bytes.{colon}
use Rattle.acl_names.specs.Plain.{IsField, IsFront}
use Rattle.acl_names.proofs.Fields.{fields_again, joined_plain}
use Rattle.acl_nfs4.specs.AceFields.{AceFields, as_fields, fields_of}
use Rattle.acl_nfs4.specs.Front.{BeginsWithFields}

pub front_is : {A F : Type 0} (value_of : List ℕ → Result A F) (text : List ℕ) (fields : AceFields) (rest : List ℕ) (value : A)
    → BeginsWithFields text fields rest → ((piece : List ℕ) → fields_of piece ≡ Some fields → value_of piece ≡ Ok value)
    → IsFront value_of text value rest
front_is value_of text fields rest value begins says =
    let more = fields.flags ∷ fields.who ∷ fields.letters ∷ [] in
    let are : AllByRecursion IsField (fields.kind ∷ more) = (begins.kind, (begins.flags, (begins.who, (begins.letters, tt)))) in
    let piece = join_with_byte colon (fields.kind ∷ more) in
    let last = fields.who ++ colon ∷ fields.letters in
    let cut : fields_of piece ≡ Some fields = ap as_fields (fields_again fields.kind more are) in
    record {
      piece = piece;
      cut = begins.cut
          ∙ sym (append_assoc fields.kind (colon ∷ (fields.flags ++ colon ∷ last)) rest
          ∙ ap (λ x. fields.kind ++ colon ∷ x) (append_assoc fields.flags (colon ∷ last) rest
          ∙ ap (λ x. fields.flags ++ colon ∷ x) (append_assoc fields.who (colon ∷ fields.letters) rest)));
      some = omega (arith, length-append fields.kind (colon ∷ join_with_byte colon more));
      plain = joined_plain fields.kind more are;
      said = says piece cut;
    }

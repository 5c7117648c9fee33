-- What stands between separators.
use Rattle.std.proofs.Common.{◌≡◌, ◌∙◌, ℕ, Bool, true, false, ◌==◌, List, [], ◌∷◌, refl, sym, ap, subst, eq-eqb}
use Rattle.std.specs.List.{AllByRecursion, join_with_byte, onto_first}
use Rattle.std.proofs.lemmas.List.Elements.{All-nil, All-cons, All-from_recursion, recursion_from_All}
use Rattle.std.proofs.lemmas.List.Splits.{join_with_byte-slice_split, slice_split_at, slice_split_none, slice_split-cons_yes, slice_split-cons_no}
use Rattle.acl_names.specs.Bytes.{colon}
use Rattle.acl_names.specs.Pieces.{parts}
use Rattle.acl_accounts.specs.Shapes.{AreFields, Lacks}

module _ (c : ℕ) where
  onto_apart : (byte : ℕ) (texts : List (List ℕ)) → (byte == c) ≡ false → AllByRecursion (Lacks c) texts → AllByRecursion (Lacks c) (onto_first byte texts)
  onto_apart byte [] other apart = (All-cons (λ x. (x == c) ≡ false) byte [] other (All-nil (λ x. (x == c) ≡ false)), tt)
  onto_apart byte (text ∷ texts) other apart = (All-cons (λ x. (x == c) ≡ false) byte text other apart.0, apart.1)

  pub parts_apart : (text : List ℕ) → AllByRecursion (Lacks c) (parts c text)
  parts_apart [] = (All-nil (λ x. (x == c) ≡ false), tt)
  parts_apart (byte ∷ bytes) = by_byte (byte == c) refl (parts_apart bytes)
    where
      by_byte : (b : Bool) → (byte == c) ≡ b → AllByRecursion (Lacks c) (parts c bytes) → AllByRecursion (Lacks c) (parts c (byte ∷ bytes))
      by_byte true is apart = subst (AllByRecursion (Lacks c)) (sym (slice_split-cons_yes (λ x. x == c) byte bytes is)) (All-nil (λ x. (x == c) ≡ false), apart)
      by_byte false is apart = subst (AllByRecursion (Lacks c)) (sym (slice_split-cons_no (λ x. x == c) byte bytes is)) (onto_apart byte (parts c bytes) is apart)

  pub parts_again : (first : List ℕ) (texts : List (List ℕ)) → AllByRecursion (Lacks c) (first ∷ texts) → parts c (join_with_byte c (first ∷ texts)) ≡ first ∷ texts
  parts_again first [] apart = slice_split_none (λ x. x == c) first apart.0
  parts_again first (second ∷ texts) apart =
      slice_split_at (λ x. x == c) first c (join_with_byte c (second ∷ texts)) apart.0 (eq-eqb c c refl)
      ∙ ap (λ more. first ∷ more) (parts_again second texts apart.1)

pub fields_stand : (line : List ℕ) → AreFields line (parts colon line)
fields_stand line = record {
  joined = sym (join_with_byte-slice_split colon line);
  apart = All-from_recursion (Lacks colon) (parts colon line) (parts_apart colon line);
}

pub fields_read : (line first : List ℕ) (fields : List (List ℕ)) → AreFields line (first ∷ fields) → parts colon line ≡ first ∷ fields
fields_read line first fields are =
    ap (parts colon) are.joined ∙ parts_again colon first fields (recursion_from_All (Lacks colon) (first ∷ fields) are.apart)

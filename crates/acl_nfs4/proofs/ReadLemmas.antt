-- What a piece says that is read: an entry with an effect.
use Rattle.std.proofs.Common.{◌≡◌, ◌⊎◌, ℕ, Bool, true, false, cond, List, [], ◌∷◌, Option, Some, None, Result, Ok, Err, refl, sym, ap, subst, ◌∙◌, All, inl, inr}
use Rattle.std.proofs.lemmas.List.Elements.{All-nil, All-cons}
use Rattle.acl_names.specs.Bits.{has}
use Rattle.acl_names.specs.Letters.{letters_of}
use Rattle.acl_names.specs.ListText.{PiecesSay, Spells}
use Rattle.acl_names.specs.Names.{Names}
use Rattle.acl_names.specs.Steps.{◌>>=◌}
use Rattle.acl_names.proofs.StepLemmas.{bind_ok}
use Rattle.acl_nfs4.specs.Ace.{Nfsace4, IsAce, ace_of, is_idle}
use Rattle.acl_nfs4.specs.AceFields.{AceFields, fields_of, type_of, refuse_idle}
use Rattle.acl_nfs4.specs.Acl.{AreAces}
use Rattle.acl_nfs4.specs.Flags.{identifier_group}
use Rattle.acl_nfs4.specs.Letters.{flag_table, mask_table}
use Rattle.acl_nfs4.specs.NamedAces.{ace_by, who_by}
use Rattle.acl_nfs4.specs.declared.limits.TheConstants.{MAX_ACES}
use Rattle.acl_nfs4.specs.declared.ace.AceType.{AceType}
use Rattle.acl_nfs4.specs.declared.reading.PieceFault.{PieceFault}
use Rattle.acl_nfs4.specs.declared.reading.PieceFault.TheVariants.{Syntax, InheritOnly}
use Rattle.acl_nfs4.specs.declared.who.Who.{Who}
use Rattle.acl_nfs4.proofs.AceLemmas.{IsAce-ace_of}

pub refuse_idle_ok : (ace made : Nfsace4) → refuse_idle made ≡ Ok ace → (made ≡ ace) × (is_idle made ≡ false)
refuse_idle_ok ace made e = go (is_idle made) e
  where
    go : (b : Bool) → cond b (Err InheritOnly) (Ok made) ≡ Ok ace → (made ≡ ace) × (b ≡ false)
    go true e = absurd (cc)
    go false e = (cc, refl)

pub refuse_idle_said : (ace : Nfsace4) → is_idle ace ≡ false → refuse_idle ace ≡ Ok ace
refuse_idle_said ace has_effect = ap (λ b. cond b (Err InheritOnly) (Ok ace)) has_effect

-- an entry of a list
pub record IsRead (ace : Nfsace4) : Type 0 where
  pub is_ace : IsAce ace
  pub effective : is_idle ace ≡ false

-- what holds of each value of a piece holds of each member of a list that pieces say
each_said : {F : Type 0} (P : Nfsace4 → Type 0) (value_of : List ℕ → Result Nfsace4 F) → ((piece : List ℕ) (ace : Nfsace4) → value_of piece ≡ Ok ace → P ace)
    → (texts : List (List ℕ)) (aces : List Nfsace4) → PiecesSay value_of texts aces → All P aces
each_said P value_of holds texts [] said = All-nil P
each_said P value_of holds [] (ace ∷ aces) said = absurd (cc)
each_said P value_of holds (text ∷ texts) (ace ∷ aces) said =
    let here : value_of text ≡ Ok ace = cc in
    let rest : PiecesSay value_of texts aces = cc in
    All-cons P ace aces (holds text ace here) (each_said P value_of holds texts aces rest)

-- a text whose pieces say entries spells a list of them
pub AreAces-spelt : {F : Type 0} (value_of : List ℕ → Result Nfsace4 F) → ((piece : List ℕ) (ace : Nfsace4) → value_of piece ≡ Ok ace → IsAce ace × (is_idle ace ≡ false))
    → (text : List ℕ) (aces : List Nfsace4) → Spells value_of MAX_ACES text aces → AreAces aces
AreAces-spelt value_of read text aces spells = record {
  within = spells.within;
  each = each_said IsAce value_of (λ piece ace e. (read piece ace e).0) _ aces spells.said;
  effective = each_said (λ ace. is_idle ace ≡ false) value_of (λ piece ace e. (read piece ace e).1) _ aces spells.said;
}

-- the parts of a piece in the shape of an entry, but for its who
pub record Shaped (piece : List ℕ) : Type 0 where
  pub fields : AceFields
  pub kind : AceType
  pub flags : ℕ
  pub mask : ℕ
  pub cut : fields_of piece ≡ Some fields
  pub kind_is : type_of fields.kind ≡ Some kind
  pub flags_are : letters_of flag_table fields.flags ≡ Some flags
  pub mask_is : letters_of mask_table fields.letters ≡ Some mask

-- whom it names, and the entry for this one
abbrev pub who_in : {piece : List ℕ} → Names → Shaped piece → Result Who PieceFault
who_in names shape = who_by names (has shape.flags identifier_group) shape.fields.who

abbrev pub ace_for : {piece : List ℕ} → Shaped piece → Who → Nfsace4
ace_for shape who = ace_of shape.kind shape.flags who shape.mask

-- a piece has such a shape, or Syntax by any names
abbrev pub IsMisshapen : List ℕ → Type 0
IsMisshapen piece = (names : Names) → ace_by names piece ≡ Err Syntax

pub shape_of : (piece : List ℕ) → IsMisshapen piece ⊎ Shaped piece
unfolding ace_by
shape_of piece = by_fields (fields_of piece) refl
  where
    by_fields : (fields : Option AceFields) → fields_of piece ≡ fields → IsMisshapen piece ⊎ Shaped piece
    by_fields None cut = inl (λ names. rw cut refl)
    by_fields (Some fields) cut = by_kind (type_of fields.kind) refl
      where
        by_kind : (kind : Option AceType) → type_of fields.kind ≡ kind → IsMisshapen piece ⊎ Shaped piece
        by_kind None kind_is = inl (λ names. rw (cut, kind_is) refl)
        by_kind (Some kind) kind_is = by_flags (letters_of flag_table fields.flags) refl
          where
            by_flags : (flags : Option ℕ) → letters_of flag_table fields.flags ≡ flags → IsMisshapen piece ⊎ Shaped piece
            by_flags None flags_are = inl (λ names. rw (cut, kind_is, flags_are) refl)
            by_flags (Some flags) flags_are = by_mask (letters_of mask_table fields.letters) refl
              where
                by_mask : (mask : Option ℕ) → letters_of mask_table fields.letters ≡ mask → IsMisshapen piece ⊎ Shaped piece
                by_mask None mask_is = inl (λ names. rw (cut, kind_is, flags_are, mask_is) refl)
                by_mask (Some mask) mask_is =
                    inr (record { fields = fields; kind = kind; flags = flags; mask = mask; cut = cut; kind_is = kind_is; flags_are = flags_are; mask_is = mask_is })

-- the parts of a piece that writes an entry
pub record Parts (names : Names) (piece : List ℕ) (ace : Nfsace4) : Type 0 where
  pub shape : Shaped piece
  pub who : Who
  pub who_is : who_in names shape ≡ Ok who
  pub made : ace_for shape who ≡ ace

module _ (names : Names) (piece : List ℕ) where
  -- a piece of this shape says the entry for the one whom it names
  pub value_of_shaped : (shape : Shaped piece) → ace_by names piece ≡ (who_in names shape >>= (λ who. refuse_idle (ace_for shape who)))
  unfolding ace_by
  value_of_shaped shape = rw (shape.cut, shape.kind_is, shape.flags_are, shape.mask_is) refl

  pub parts_of : (ace : Nfsace4) → ace_by names piece ≡ Ok ace → Parts names piece ace × (is_idle ace ≡ false)
  parts_of ace e = go (shape_of piece)
    where
      go : IsMisshapen piece ⊎ Shaped piece → Parts names piece ace × (is_idle ace ≡ false)
      go (inl none) = let both : Err Syntax ≡ Ok ace = sym (none names) ∙ e in absurd (cc)
      go (inr shape) =
          let who = bind_ok (who_in names shape) _ ace (sym (value_of_shaped shape) ∙ e) in
          let last = refuse_idle_ok ace (ace_for shape who.0) who.2 in
          (record { shape = shape; who = who.0; who_is = who.1; made = last.0 }, ap is_idle (sym last.0) ∙ last.1)

  -- an entry that is written is said if it has an effect
  pub value_of_parts : (ace : Nfsace4) → Parts names piece ace → ace_by names piece ≡ refuse_idle ace
  value_of_parts ace parts =
      value_of_shaped parts.shape ∙ ap (λ who. who >>= (λ who. refuse_idle (ace_for parts.shape who))) parts.who_is ∙ ap refuse_idle parts.made

pub ace_read : (names : Names) (piece : List ℕ) (ace : Nfsace4) → ace_by names piece ≡ Ok ace → IsAce ace × (is_idle ace ≡ false)
ace_read names piece ace e =
    let (parts, effective) = parts_of names piece ace e in
    (subst IsAce parts.made (IsAce-ace_of parts.shape.kind parts.shape.flags parts.who parts.shape.mask), effective)

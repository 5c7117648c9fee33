-- What texts write in a directory's domain: ids, and names alone and with the domain.
use Rattle.std.proofs.Common.{◌≡◌, ◌∙◌, ◌&&◌, ◌==◌, ℕ, ◌≤◌, Bool, true, false, cond, List, [], ◌∷◌, ◌++◌, length, nat_le, Option, Some, None, Result, Ok, Err}
use Rattle.std.proofs.Common.{refl, sym, ap, ap₂, inl, inr, arith, bytes_eq, codes, decimal}
use Rattle.std.specs.Char.{is_ascii_digit}
use Rattle.std.specs.List.{All, join_with_byte, list_all}
use Rattle.std.proofs.lemmas.Bool.Decides.{nat_tests}
use Rattle.std.proofs.lemmas.Fmt.{decimal_is_IsNumeral}
use Rattle.std.proofs.lemmas.List.Elements.{All-weaker}
use Rattle.std.proofs.lemmas.List.Splits.{join_with_byte-slice_split, slice_split_at, slice_split_none}
use Rattle.std.proofs.lemmas.List.Sums.{AllPass-from_list_all}
use Rattle.std.proofs.lemmas.Slice.Eq.{bytes_eq-Decides}
use Rattle.acl_names.specs.declared.directory.resolve.NameFault.{NameFault}
use Rattle.acl_names.specs.declared.directory.resolve.NameFault.TheVariants.{Malformed, Unknown}
use Rattle.acl_names.specs.declared.limits.TheConstants.{MAX_NAME_LEN, MAX_DOMAIN_LEN, MAX_ID}
use Rattle.acl_names.specs.Bytes.{at_sign}
use Rattle.acl_names.specs.Directory.{Known}
use Rattle.acl_names.specs.Ids.{Written, Number, Name, begins_name, continues_name, decimal_value, has_domain_shape, has_name_shape, id_of_written, number_or_name, stands_in_domain, written_id}
use Rattle.acl_names.specs.Names.{resolved}
use Rattle.acl_names.specs.Pieces.{parts}
use Rattle.acl_names.specs.Steps.{◌>>=◌, or_fault}
use Rattle.acl_names.proofs.Decimals.{digits_model}
use Rattle.acl_names.proofs.IdTexts.{and_first, and_second, written_name}
use Rattle.acl_names.proofs.NamesLemmas.{are_digits}
use Rattle.acl_names.proofs.StepLemmas.{bind_ok, given, some_from_cond, written_by}
use Rattle.acl_posix.proofs.ShapeLemmas.{decimal_within}
use Rattle.acl_nfs4.specs.AceShapes.{WritesId}
use Rattle.acl_nfs4.specs.AceText.{id_in, id_of_parts, written_in_parts, written_who}
use Rattle.acl_nfs4.specs.NamedAces.{special_or, special_who, who_with}
use Rattle.acl_nfs4.specs.WrittenHere.{written_here}
use Rattle.acl_nfs4.specs.declared.who.Who.{Who}
use Rattle.acl_nfs4.specs.declared.who.Who.TheVariants.{Owner, Group, Everyone}

-- ---- the parts between each '@'

domain_byte_no_at : (byte : ℕ) → stands_in_domain byte ≡ true → (byte == at_sign) ≡ false
domain_byte_no_at byte is = grind (arith, nat_tests)

name_byte_no_at : (byte : ℕ) → continues_name byte ≡ true → (byte == at_sign) ≡ false
name_byte_no_at byte is = grind (arith, nat_tests)

digit_no_at : (byte : ℕ) → is_ascii_digit byte ≡ true → (byte == at_sign) ≡ false
digit_no_at byte is = grind (arith, nat_tests)

-- the bytes of a name, of a domain, of a decimal
pub name_bytes : (name : List ℕ) → has_name_shape name ≡ true → All (λ byte. continues_name byte ≡ true) name
name_bytes [] shaped = absurd (cc)
name_bytes (c ∷ cs) shaped =
    AllPass-from_list_all continues_name (c ∷ cs)
    (and_second (nat_le 1 (length (c ∷ cs)) && nat_le (length (c ∷ cs)) MAX_NAME_LEN && begins_name c) (list_all continues_name (c ∷ cs)) shaped)

pub domain_bytes : (domain : List ℕ) → has_domain_shape domain ≡ true → All (λ byte. stands_in_domain byte ≡ true) domain
domain_bytes domain shaped =
    AllPass-from_list_all stands_in_domain domain
    (and_second (nat_le 1 (length domain) && nat_le (length domain) MAX_DOMAIN_LEN) (list_all stands_in_domain domain) shaped)

pub decimal_bytes : (id : ℕ) → id ≤ MAX_ID → All (λ byte. is_ascii_digit byte ≡ true) (decimal id)
decimal_bytes id small =
    let numeral = decimal_is_IsNumeral id (omega arith) in
    AllPass-from_list_all is_ascii_digit (decimal id) (digits_model.from (decimal id) numeral.0.1)

parts_at : (name domain : List ℕ) → has_name_shape name ≡ true → has_domain_shape domain ≡ true → parts at_sign (name ++ at_sign ∷ domain) ≡ name ∷ domain ∷ []
parts_at name domain shaped domain_shaped =
    slice_split_at (λ x. x == at_sign) name at_sign domain
    (All-weaker (λ byte. continues_name byte ≡ true) (λ byte. (byte == at_sign) ≡ false) name_byte_no_at name (name_bytes name shaped)) refl
    ∙ ap (λ rest. name ∷ rest)
    (slice_split_none (λ x. x == at_sign) domain
    (All-weaker (λ byte. stands_in_domain byte ≡ true) (λ byte. (byte == at_sign) ≡ false) domain_byte_no_at domain (domain_bytes domain domain_shaped)))

parts_name : (name : List ℕ) → has_name_shape name ≡ true → parts at_sign name ≡ name ∷ []
parts_name name shaped =
    slice_split_none (λ x. x == at_sign) name
    (All-weaker (λ byte. continues_name byte ≡ true) (λ byte. (byte == at_sign) ≡ false) name_byte_no_at name (name_bytes name shaped))

parts_decimal : (text : List ℕ) (id : ℕ) → decimal_value text ≡ Some id → parts at_sign text ≡ text ∷ []
parts_decimal text id is =
    slice_split_none (λ x. x == at_sign) text
    (All-weaker (λ byte. is_ascii_digit byte ≡ true) (λ byte. (byte == at_sign) ≡ false) digit_no_at text
    (AllPass-from_list_all is_ascii_digit text (are_digits text id is)))

-- ---- what a text writes in a domain

-- a text that writes a name is that name
pub name_says : (text name : List ℕ) → written_id text ≡ Some (Name name) → (has_name_shape text ≡ true) × (text ≡ name)
name_says text name e = go (decimal_value text) e
  where
    go : (number : Option ℕ) → number_or_name number text ≡ Some (Name name) → (has_name_shape text ≡ true) × (text ≡ name)
    go (Some n) e = absurd (cc)
    go None e = let choice = some_from_cond (has_name_shape text) (Name text) (Name name) e in (choice.0, cc)

pub decimal_here : (here text : List ℕ) (id : ℕ) → decimal_value text ≡ Some id → written_here here (parts at_sign text) ≡ Ok (Number id)
decimal_here here text id is = ap (written_here here) (parts_decimal text id is) ∙ ap (λ number. or_fault Malformed (number_or_name number text)) is

-- the id of what is written
abbrev pub found : (List ℕ → Option ℕ) → Result Written NameFault → Result ℕ NameFault
found id_of written = written >>= (λ w. or_fault Unknown (id_of_written id_of w))

-- a text is resolved by what it writes in the domain
pub resolved_here : (id_of : List ℕ → Option ℕ) (here text : List ℕ) → resolved written_who (id_in id_of here) text ≡ found id_of (written_here here (parts at_sign text))
resolved_here id_of here text = go (parts at_sign text) refl
  where
    go : (texts : List (List ℕ)) → parts at_sign text ≡ texts → found (id_in id_of here) (or_fault Malformed (written_in_parts text texts)) ≡ found id_of (written_here here texts)
    go [] is = refl
    go (id ∷ []) is = alone (written_id id) refl
      where
        alone : (written : Option Written) → written_id id ≡ written → found (id_in id_of here) (or_fault Malformed written) ≡ found id_of (or_fault Malformed written)
        alone None e = refl
        alone (Some (Number n)) e = refl
        alone (Some (Name name)) e =
            let says = name_says id name e in
            ap (λ texts. or_fault Unknown (id_of_parts id_of here texts)) (parts_name name (ap has_name_shape (sym says.1) ∙ says.0))
    go (name ∷ domain ∷ []) is = shapes (has_name_shape name && has_domain_shape domain)
      where
        inside : (same : Bool) → or_fault Unknown (cond same (id_of name) None) ≡ found id_of (cond same (Ok (Name name)) (Err Unknown))
        inside true = refl
        inside false = refl

        shapes : (shaped : Bool) → found (id_in id_of here) (or_fault Malformed (cond shaped (Some (Name text)) None))
            ≡ found id_of (cond shaped (cond (bytes_eq domain here) (Ok (Name name)) (Err Unknown)) (Err Malformed))
        shapes true = ap (λ texts. or_fault Unknown (id_of_parts id_of here texts)) is ∙ inside (bytes_eq domain here)
        shapes false = refl
    go (one ∷ two ∷ three ∷ more) is = refl

module _ (known : Known) (id_of : List ℕ → Option ℕ) (text : List ℕ) (id : ℕ) where
  -- an id that is resolved is written
  pub id_says : resolved written_who (id_in id_of known.domain) text ≡ Ok id → WritesId known id_of text id
  id_says e = go (parts at_sign text) (join_with_byte-slice_split at_sign text) (sym (resolved_here id_of known.domain text) ∙ e)
    where
      go : (texts : List (List ℕ)) → join_with_byte at_sign texts ≡ text → found id_of (written_here known.domain texts) ≡ Ok id → WritesId known id_of text id
      go [] joined e = absurd (cc)
      go (one ∷ []) joined e =
          let written = bind_ok (or_fault Malformed (written_id one)) _ id e in
          elim (written_by id_of one (decimal_value one) written.0 id (given Malformed (written_id one) written.0 written.1) (given Unknown (id_of_written id_of written.0) id written.2))
          [ inl number ↦ inl (ap decimal_value (sym joined) ∙ number) | inr name ↦ inr (one, (name.0, inl (sym joined)), name.1) ]
      go (name ∷ domain ∷ []) joined e = at (has_name_shape name && has_domain_shape domain) refl (bytes_eq domain known.domain) refl e
        where
          at : (shaped : Bool) → (has_name_shape name && has_domain_shape domain) ≡ shaped → (same : Bool) → bytes_eq domain known.domain ≡ same
              → found id_of (cond shaped (cond same (Ok (Name name)) (Err Unknown)) (Err Malformed)) ≡ Ok id → WritesId known id_of text id
          at true shapes true same e =
              let is = (bytes_eq-Decides domain known.domain).0 same in
              inr (
                name,
                (
                  and_first (has_name_shape name) (has_domain_shape domain) shapes,
                  inr (sym joined ∙ ap (λ (d : List ℕ). name ++ at_sign ∷ d) is, ap has_domain_shape (sym is) ∙ and_second (has_name_shape name) (has_domain_shape domain) shapes),
                ),
                given Unknown (id_of name) id e,
              )
          at true shapes false same e = absurd (cc)
          at false shapes same is e = absurd (cc)
      go (one ∷ two ∷ three ∷ more) joined e = absurd (cc)

  abbrev by_parts : List (List ℕ) → Result ℕ NameFault
  by_parts texts = found id_of (written_here known.domain texts)

  -- and one that is written is resolved
  pub id_read : WritesId known id_of text id → resolved written_who (id_in id_of known.domain) text ≡ Ok id
  id_read writes = resolved_here id_of known.domain text ∙ go writes
    where
      go : WritesId known id_of text id → by_parts (parts at_sign text) ≡ Ok id
      go (inl number) = ap (found id_of) (decimal_here known.domain text id number) ∙ ap (λ b. or_fault Unknown (cond b (Some id) None)) (decimal_within text id number)
      go (inr (name, (shaped, inl alone), is)) =
          ap (λ (t : List ℕ). by_parts (parts at_sign t)) alone ∙ ap by_parts (parts_name name shaped)
          ∙ ap (λ written. found id_of (or_fault Malformed written)) (written_name name shaped) ∙ ap (or_fault Unknown) is
      go (inr (name, (shaped, inr (joined, domain_shaped)), is)) =
          ap (λ (t : List ℕ). by_parts (parts at_sign t)) joined ∙ ap by_parts (parts_at name known.domain shaped domain_shaped)
          ∙ ap₂ (λ shapes same. found id_of (cond shapes (cond same (Ok (Name name)) (Err Unknown)) (Err Malformed)))
          (ap₂ (λ a b. a && b) shaped domain_shaped) ((bytes_eq-Decides known.domain known.domain).1 refl)
          ∙ ap (or_fault Unknown) is

-- ---- special identifiers

no_special : {A : Type 0} (written : List ℕ → Option A) (text word : List ℕ) (one : A) → written text ≡ Some one → written word ≡ None → bytes_eq text word ≡ false
no_special written text word one writes none = go (bytes_eq text word) refl
  where
    go : (b : Bool) → bytes_eq text word ≡ b → b ≡ false
    go false is = refl
    go true is =
        let both : Some one ≡ None = sym writes ∙ ap written ((bytes_eq-Decides text word).0 is) ∙ none in
        absurd (cc)

-- a text that writes something is none, if those write nothing
pub special_none : {A : Type 0} (written : List ℕ → Option A) (text : List ℕ) (one : A) → written text ≡ Some one
    → written (codes "OWNER@") ≡ None → written (codes "GROUP@") ≡ None → written (codes "EVERYONE@") ≡ None → special_who text ≡ None
special_none written text one writes owner group everyone =
    ap (λ b. cond b (Some Owner) (cond (bytes_eq text (codes "GROUP@")) (Some Group) (cond (bytes_eq text (codes "EVERYONE@")) (Some Everyone) None)))
    (no_special written text (codes "OWNER@") one writes owner)
    ∙ ap₂ (λ a b. cond a (Some Group) (cond b (Some Everyone) None)) (no_special written text (codes "GROUP@") one writes group)
    (no_special written text (codes "EVERYONE@") one writes everyone)

-- whoever has the id that is written is named
pub named_read : (known : Known) (who_of : ℕ → Who) (id_of : List ℕ → Option ℕ) (text : List ℕ) (id : ℕ) → WritesId known id_of text id
    → special_or (special_who text) (who_with who_of (resolved written_who (id_in id_of known.domain) text)) ≡ Ok (who_of id)
named_read known who_of id_of text id writes =
    let is = id_read known id_of text id writes in
    let written = bind_ok (or_fault Malformed (written_who text)) _ id is in
    let none = special_none written_who text written.0 (given Malformed (written_who text) written.0 written.1) refl refl refl in
    ap₂ (λ special found. special_or special (who_with who_of found)) none is

-- What is printed of an id is read as that id.
use Rattle.std.proofs.Common.{Bor, sym, option_map, IfSome, ◌≡◌, ℕ, ◌≤◌, ◌<◌, Bool, true, false, ◌&&◌, cond}
use Rattle.std.proofs.Common.{nat_le, List, [], ◌∷◌, length, Option, option_and_then, Some, None, Ok, unwrap_or}
use Rattle.std.proofs.Common.{get_or, lit<, inl, inr, refl, ap, ◌∙◌, arith, decimal, IsUtf8, le-leb}
use Rattle.std.specs.List.{All, list_all}
use Rattle.std.specs.Char.{is_ascii_digit}
use Rattle.std.proofs.lemmas.Str.{IsUtf8-from_ascii}
use Rattle.std.proofs.lemmas.List.{get_or_past}
use Rattle.std.proofs.lemmas.List.Elements.{All-weaker}
use Rattle.std.proofs.lemmas.List.Sums.{AllPass-from_list_all}
use Rattle.std.specs.Str.Parse.{digits_value, IsNumeral}
use Rattle.std.proofs.lemmas.Fmt.{decimal_is_IsNumeral, length-decimal-le}
use Rattle.std.proofs.lemmas.Bool.{cases_lt, and_parts}
use Rattle.std.proofs.lemmas.Bool.Decides.{nat_tests}
use Rattle.acl_names.specs.declared.limits.TheConstants.{MAX_NAME_LEN, MAX_DIGITS, MAX_ID}
use Rattle.acl_names.specs.Ids.{Written, Number, Name, written_id, number_or_name, decimal_value, is_decimal, has_name_shape, begins_name, continues_name, id_text, id_of_written, ReadBack}
use Rattle.acl_names.specs.Names.{resolved}
use Rattle.acl_names.specs.Steps.{◌>>=◌, or_fault}
use Rattle.acl_names.specs.declared.directory.resolve.NameFault.TheVariants.{Malformed, Unknown}
use Rattle.acl_names.proofs.Decimals.{digits_model}

pub and_first : (a b : Bool) → (a && b) ≡ true → a ≡ true
and_first a b e = (and_parts a b e).0

pub and_second : (a b : Bool) → (a && b) ≡ true → b ≡ true
and_second a b e = (and_parts a b e).1

name_byte_is_ascii : (byte : ℕ) → continues_name byte ≡ true → byte < 128
name_byte_is_ascii byte is = grind (arith, nat_tests)

-- a name is text
pub name_is_utf8 : (name : List ℕ) → has_name_shape name ≡ true → IsUtf8 name
name_is_utf8 [] shaped = cc
name_is_utf8 (c ∷ cs) shaped =
    let len = nat_le 1 (length (c ∷ cs)) && nat_le (length (c ∷ cs)) MAX_NAME_LEN in
    let bytes : list_all continues_name (c ∷ cs) ≡ true = and_second (len && begins_name c) (list_all continues_name (c ∷ cs)) shaped in
    let below : All (λ byte. byte < 128) (c ∷ cs) =
    All-weaker (λ byte. continues_name byte ≡ true) (λ byte. byte < 128) name_byte_is_ascii (c ∷ cs) (AllPass-from_list_all continues_name (c ∷ cs) bytes) in
    IsUtf8-from_ascii (c ∷ cs) (λ i. elim (cases_lt i (length (c ∷ cs))) [
      | inl inside ↦ below i 0 inside
      | inr past ↦ let none : get_or (c ∷ cs) i 0 ≡ 0 = get_or_past (c ∷ cs) i 0 past in rw none (lit< tt)
    ])

letter_no_digit : (c : ℕ) → begins_name c ≡ true → is_ascii_digit c ≡ false
letter_no_digit c begins = grind (arith, nat_tests)

name_no_decimal : (name : List ℕ) → has_name_shape name ≡ true → decimal_value name ≡ None
name_no_decimal [] shaped = cc
name_no_decimal (c ∷ cs) shaped =
    let len = nat_le 1 (length (c ∷ cs)) && nat_le (length (c ∷ cs)) MAX_NAME_LEN in
    let begins : begins_name c ≡ true = and_second len (begins_name c) (and_first (len && begins_name c) (list_all continues_name (c ∷ cs)) shaped) in
    rw (letter_no_digit c begins) refl

pub written_name : (name : List ℕ) → has_name_shape name ≡ true → written_id name ≡ Some (Name name)
written_name name shaped = ap (λ number. number_or_name number name) (name_no_decimal name shaped) ∙ ap (λ t. cond t (Some (Name name)) None) shaped

-- a decimal is read as its id
pub decimal_read : (n : ℕ) → n ≤ MAX_ID → decimal_value (decimal n) ≡ Some n
decimal_read n small =
    let numeral : IsNumeral 10 (decimal n) × (digits_value 10 (decimal n) ≡ n) = decimal_is_IsNumeral n (omega arith) in
    let digits : list_all is_ascii_digit (decimal n) ≡ true = digits_model.from (decimal n) numeral.0.1 in
    let some : nat_le 1 (length (decimal n)) ≡ true = le-leb 1 (length (decimal n)) numeral.0.0 in
    let few : nat_le (length (decimal n)) MAX_DIGITS ≡ true = le-leb (length (decimal n)) MAX_DIGITS (length-decimal-le 10 n (omega arith) (omega arith) (omega arith)) in
    let low : nat_le (digits_value 10 (decimal n)) MAX_ID ≡ true = le-leb (digits_value 10 (decimal n)) MAX_ID (rw numeral.1 small) in
    let is : is_decimal (decimal n) ≡ true = rw (digits, some, few, low) refl in
    ap (λ t. cond t (Some (digits_value 10 (decimal n))) None) is ∙ ap Some numeral.1

pub written_decimal : (n : ℕ) → n ≤ MAX_ID → written_id (decimal n) ≡ Some (Number n)
written_decimal n small = ap (λ number. number_or_name number (decimal n)) (decimal_read n small)

-- what is printed of an id writes the id
pub id_again : (id_of : List ℕ → Option ℕ) (name_of : ℕ → Option (List ℕ)) (id : ℕ) → ReadBack id_of name_of → id ≤ MAX_ID
    → option_and_then (id_of_written id_of) (written_id (id_text name_of id)) ≡ Some id
id_again id_of name_of id back small = by_name (name_of id) refl
  where
    by_name : (name : Option (List ℕ)) → name_of id ≡ name → option_and_then (id_of_written id_of) (written_id (unwrap_or name (decimal id))) ≡ Some id
    by_name None e = ap (option_and_then (id_of_written id_of)) (written_decimal id small) ∙ ap (λ t. cond t (Some id) None) (le-leb id MAX_ID small)
    by_name (Some name) e = ap (option_and_then (id_of_written id_of)) (written_name name (back id name e).0) ∙ (back id name e).1

-- and is resolved to the id
resolved_by : (id_of : List ℕ → Option ℕ) (id : ℕ) (written : Option Written) → option_and_then (id_of_written id_of) written ≡ Some id
    → (or_fault Malformed written >>= (λ w. or_fault Unknown (id_of_written id_of w))) ≡ Ok id
resolved_by id_of id None is = cc
resolved_by id_of id (Some written) is = ap (or_fault Unknown) is

pub resolved_again : (id_of : List ℕ → Option ℕ) (name_of : ℕ → Option (List ℕ)) (id : ℕ) → ReadBack id_of name_of → id ≤ MAX_ID
    → resolved written_id id_of (id_text name_of id) ≡ Ok id
resolved_again id_of name_of id back small = resolved_by id_of id (written_id (id_text name_of id)) (id_again id_of name_of id back small)

-- a name has 32 bytes at most
pub name_is_short : (name : List ℕ) → has_name_shape name ≡ true → length name ≤ MAX_NAME_LEN
name_is_short name shaped =
    let len = nat_le 1 (length name) && nat_le (length name) MAX_NAME_LEN in
    let both : len ≡ true = and_first len (begins_name (get_or name 0 0)) (and_first (len && begins_name (get_or name 0 0)) (list_all continues_name name) shaped) in
    let few : nat_le (length name) MAX_NAME_LEN ≡ true = and_second (nat_le 1 (length name)) (nat_le (length name) MAX_NAME_LEN) both in
    grind (arith, nat_tests)

-- so has the name that is found for an id
pub found_name_is_short : (id_of : List ℕ → Option ℕ) (name_of : ℕ → Option (List ℕ)) (id : ℕ) → ReadBack id_of name_of
    → (name : Option (Bor (List ℕ))) → option_map (λ (found : Bor (List ℕ)). found.now) name ≡ name_of id → IfSome name (λ found. length found.now ≤ MAX_NAME_LEN)
found_name_is_short id_of name_of id back None is = tt
found_name_is_short id_of name_of id back (Some name) is = name_is_short name.now (back id name.now (sym is)).0

-- digits write their value, if there are 1 to 10 and it is an id
pub decimal_is : (text : List ℕ) → list_all is_ascii_digit text ≡ true → 1 ≤ length text → length text ≤ MAX_DIGITS → digits_value 10 text ≤ MAX_ID
    → decimal_value text ≡ Some (digits_value 10 text)
decimal_is text digits some few small =
    let one : nat_le 1 (length text) ≡ true = le-leb 1 (length text) some in
    let ten : nat_le (length text) MAX_DIGITS ≡ true = le-leb (length text) MAX_DIGITS few in
    let low : nat_le (digits_value 10 text) MAX_ID ≡ true = le-leb (digits_value 10 text) MAX_ID small in
    let is : is_decimal text ≡ true = rw (digits, one, ten, low) refl in
    ap (λ t. cond t (Some (digits_value 10 text)) None) is

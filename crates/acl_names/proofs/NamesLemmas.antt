-- Fields that write ids.
use Rattle.std.proofs.Common.{◌≡◌, ℕ, ◌<◌, Bool, true, false, ◌&&◌, List, ◌∷◌, ◌++◌, length, Option, Some, None, option_and_then, refl, sym, ap, ◌∙◌, cond}
use Rattle.std.proofs.Common.{nat_le, arith}
use Rattle.std.specs.List.{list_all}
use Rattle.std.specs.Char.{is_ascii_digit}
use Rattle.std.specs.Str.Parse.{digits_value}
use Rattle.std.proofs.lemmas.Bool.Decides.{nat_tests}
use Rattle.std.proofs.lemmas.List.Elements.{All-weaker}
use Rattle.std.proofs.lemmas.List.Sums.{AllPass-from_list_all}
use Rattle.acl_names.specs.Bytes.{colon}
use Rattle.acl_names.specs.Ids.{decimal_value, has_name_shape, id_of_written, is_decimal, number_or_name, written_id}
use Rattle.acl_names.specs.declared.limits.TheConstants.{MAX_ID}
use Rattle.acl_names.specs.Names.{BeginsWithId}
use Rattle.acl_names.specs.Plain.{BeginsWithDecimal, IsField, is_field_byte}
use Rattle.acl_names.proofs.Fields.{digit_in_field, name_field}
use Rattle.acl_names.proofs.IdTexts.{and_first, and_second, written_name}

-- a name writes the id of the one who has it
pub named_front : (id_of : List ℕ → Option ℕ) (text name : List ℕ) (id : ℕ) (rest : List ℕ) → text ≡ name ++ colon ∷ rest → has_name_shape name ≡ true
    → Some id ≡ id_of name → BeginsWithId written_id id_of text id rest
named_front id_of text name id rest cut shaped found =
    let field = name_field name shaped in
    record {
      name = name;
      cut = cut;
      field = field.0;
      some = field.1;
      says = ap (option_and_then (id_of_written id_of)) (written_name name shaped) ∙ sym found;
    }

-- a decimal is digits, of which there is one at least
record IsDigits (text : List ℕ) : Type 0 where
  pub all : list_all is_ascii_digit text ≡ true
  pub some : 0 < length text

digits_of : (text : List ℕ) (number : ℕ) → decimal_value text ≡ Some number → IsDigits text
digits_of text number writes = go (is_decimal text) refl writes
  where
    go : (b : Bool) → is_decimal text ≡ b → cond b (Some (digits_value 10 text)) None ≡ Some number → IsDigits text
    go false is e = absurd (cc)
    go true is e =
        let bytes = and_first (list_all is_ascii_digit text && nat_le 1 (length text)) _ (and_first _ _ is) in
        let some : nat_le 1 (length text) ≡ true = and_second (list_all is_ascii_digit text) _ bytes in
        record { all = and_first (list_all is_ascii_digit text) _ bytes; some = grind (arith, nat_tests) }

pub are_digits : (text : List ℕ) (number : ℕ) → decimal_value text ≡ Some number → list_all is_ascii_digit text ≡ true
are_digits text number writes = (digits_of text number writes).all

-- the digits are a field
pub digits_field : (digits : List ℕ) (number : ℕ) → decimal_value digits ≡ Some number → IsField digits × (0 < length digits)
digits_field digits number writes =
    let are = digits_of digits number writes in (
      All-weaker (λ byte. is_ascii_digit byte ≡ true) (λ byte. is_field_byte byte ≡ true) digit_in_field digits (AllPass-from_list_all is_ascii_digit digits are.all),
      are.some,
    )

-- and it writes its number, if that is an id
pub decimal_front : (id_of : List ℕ → Option ℕ) (text : List ℕ) (number id : ℕ) (rest : List ℕ) → BeginsWithDecimal colon text number rest
    → cond (nat_le number MAX_ID) (Some number) None ≡ Some id → BeginsWithId written_id id_of text id rest
decimal_front id_of text number id rest front is =
    let field = digits_field front.digits number front.writes in
    record {
      name = front.digits;
      cut = front.cut;
      field = field.0;
      some = field.1;
      says = ap (λ value. option_and_then (id_of_written id_of) (number_or_name value front.digits)) front.writes ∙ is;
    }

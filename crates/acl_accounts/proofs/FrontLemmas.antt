-- Decimals are ids to accounts as to a directory.
use Rattle.std.proofs.Common.{◌≡◌, ℕ, cond, List, Option, Some, None, option_and_then, option_map, ap, ◌∙◌}
use Rattle.std.specs.Prelude.{nat_le}
use Rattle.acl_names.specs.Bytes.{colon}
use Rattle.acl_names.specs.Ids.{Number, decimal_value, id_of_written}
use Rattle.acl_names.specs.Names.{BeginsWithId}
use Rattle.acl_names.specs.Plain.{BeginsWithDecimal}
use Rattle.acl_names.specs.declared.limits.TheConstants.{MAX_ID}
use Rattle.acl_names.proofs.NamesLemmas.{are_digits, digits_field}
use Rattle.acl_accounts.specs.Names.{named, unquoted, written_account}

-- a decimal is written so
pub written_number : (digits : List ℕ) (number : ℕ) → decimal_value digits ≡ Some number → written_account digits ≡ Some (Number number)
written_number digits number writes =
    ap (λ all. cond all (option_map Number (decimal_value digits)) (named (unquoted digits))) (are_digits digits number writes)
    ∙ ap (option_map Number) writes

pub account_front : (id_of : List ℕ → Option ℕ) (text : List ℕ) (number id : ℕ) (rest : List ℕ) → BeginsWithDecimal colon text number rest
    → cond (nat_le number MAX_ID) (Some number) None ≡ Some id → BeginsWithId written_account id_of text id rest
account_front id_of text number id rest front is =
    let field = digits_field front.digits number front.writes in
    record {
      name = front.digits;
      cut = front.cut;
      field = field.0;
      some = field.1;
      says = ap (option_and_then (id_of_written id_of)) (written_number front.digits number front.writes) ∙ is;
    }

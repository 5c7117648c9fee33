-- Whoever there is, a decimal is read as its id.
use Rattle.std.proofs.Common.{◌≡◌, ◌∙◌, ◌≤◌, ◌-◌, ◌==◌, ℕ, Bool, true, false, cond, List, [], All, Option, Some, None, Ok, ap, arith, bytes_eq, codes, decimal, drop, le-leb, length, option_and_then, refl, subst, take, unwrap_or}
use Rattle.acl_names.specs.Ids.{Name, Number, Written, decimal_value, has_name_shape, id_of_written, number_or_name}
use Rattle.acl_names.specs.Names.{resolved}
use Rattle.acl_names.specs.Steps.{◌>>=◌, or_fault}
use Rattle.acl_names.specs.declared.directory.resolve.NameFault.TheVariants.{Malformed, Unknown}
use Rattle.acl_names.specs.declared.limits.TheConstants.{MAX_ID}
use Rattle.acl_names.proofs.IdTexts.{written_decimal}
use Rattle.acl_names.proofs.Decimals.{digits_model}
use Rattle.acl_names.specs.Bytes.{at_sign}
use Rattle.acl_accounts.specs.Accounts.{gid_of, uid_of}
use Rattle.acl_accounts.specs.Names.{written_account}
use Rattle.acl_accounts.proofs.FrontLemmas.{written_number}
use Rattle.acl_nfs4.specs.NamedAces.{ReadNumbers}
use Rattle.acl_people.specs.Host.{Host, before_end, by_itself, names_of_host}
use Rattle.std.specs.Char.{is_ascii_digit}
use Rattle.std.specs.List.{list_all}
use Rattle.std.proofs.lemmas.Bool.{true≢false}
use Rattle.std.proofs.lemmas.Bool.Decides.{nat_tests}
use Rattle.std.proofs.lemmas.Fmt.{decimal_is_IsNumeral}
use Rattle.std.proofs.lemmas.List.Elements.{All-drop, All-head, All-take, All-weaker}
use Rattle.std.proofs.lemmas.List.Sums.{AllPass-from_list_all}
use Rattle.std.proofs.lemmas.Slice.Eq.{bytes_eq-Decides}

decimal_read : (id : ℕ) → id ≤ MAX_ID → decimal_value (decimal id) ≡ Some id
decimal_read id small = go (decimal_value (decimal id)) (has_name_shape (decimal id)) (written_decimal id small)
  where
    go : (found : Option ℕ) (shaped : Bool) → number_or_name found (decimal id) ≡ Some (Number id) → found ≡ Some id
    go (Some number) shaped is = cc
    go None shaped is = no_name (has_name_shape (decimal id)) is
      where
        no_name : (b : Bool) → cond b (Some (Name (decimal id))) None ≡ Some (Number id) → None ≡ Some id
        no_name true is = cc
        no_name false is = cc

number_read : (written_in : List ℕ → Option Written) (id_of : List ℕ → Option ℕ) (id : ℕ) → id ≤ MAX_ID → written_in (decimal id) ≡ Some (Number id)
    → resolved written_in id_of (decimal id) ≡ Ok id
number_read written_in id_of id small is =
    ap (λ written. or_fault Malformed written >>= (λ w. or_fault Unknown (id_of_written id_of w))) is
    ∙ ap (λ b. or_fault Unknown (cond b (Some id) None)) (le-leb id MAX_ID small)

account_number : (id : ℕ) → id ≤ MAX_ID → written_account (decimal id) ≡ Some (Number id)
account_number id small = written_number (decimal id) id (decimal_read id small)

-- no decimal stands in a domain: it has digits alone
digits_no_at : (digits : List ℕ) → list_all is_ascii_digit digits ≡ true → All (λ byte. (byte == at_sign) ≡ false) digits
digits_no_at digits are = All-weaker (λ byte. is_ascii_digit byte ≡ true) (λ byte. (byte == at_sign) ≡ false) (λ byte is. grind (arith, nat_tests)) digits (AllPass-from_list_all is_ascii_digit digits are)

no_at_end : (text : List ℕ) → All (λ byte. (byte == at_sign) ≡ false) text → before_end (codes "@") text ≡ None
no_at_end text lacks = by (bytes_eq (drop (length text - 1) text) (codes "@")) refl
  where
    by : (b : Bool) → bytes_eq (drop (length text - 1) text) (codes "@") ≡ b → cond b (Some (take (length text - 1) text)) None ≡ None
    by false is = refl
    by true is =
        let same : drop (length text - 1) text ≡ codes "@" = (bytes_eq-Decides (drop (length text - 1) text) (codes "@")).0 is in
        let never : (at_sign == at_sign) ≡ false =
        All-head (λ byte. (byte == at_sign) ≡ false) at_sign []
        (subst (All (λ byte. (byte == at_sign) ≡ false)) same (All-drop (λ byte. (byte == at_sign) ≡ false) (length text - 1) text lacks)) in
        absurd (true≢false never)

by_itself_again : (domain : Option (List ℕ)) (id : ℕ) → id ≤ MAX_ID → by_itself domain (decimal id) ≡ decimal id
by_itself_again None id small = refl
by_itself_again (Some domain) id small = by (bytes_eq (drop (length (decimal id) - length domain) (decimal id)) domain)
  where
    lacks : All (λ byte. (byte == at_sign) ≡ false) (decimal id)
    lacks = digits_no_at (decimal id) (digits_model.from (decimal id) (decimal_is_IsNumeral id (omega arith)).0.1)

    by : (b : Bool) → unwrap_or (option_and_then (before_end (codes "@")) (cond b (Some (take (length (decimal id) - length domain) (decimal id))) None)) (decimal id) ≡ decimal id
    by false = refl
    by true =
        ap (λ found. unwrap_or found (decimal id))
        (no_at_end (take (length (decimal id) - length domain) (decimal id)) (All-take (λ byte. (byte == at_sign) ≡ false) (length (decimal id) - length domain) (decimal id) lacks))

module _ (host : Host) (id_of : List ℕ → Option ℕ) where
  number_of_host : (id : ℕ) → id ≤ MAX_ID → resolved (names_of_host host).written id_of (decimal id) ≡ Ok id
  number_of_host id small =
      number_read (names_of_host host).written id_of id small (ap written_account (by_itself_again host.domain id small) ∙ account_number id small)

pub numbers_of_host : (host : Host) → ReadNumbers (names_of_host host)
numbers_of_host host = record {
  uids = number_of_host host (uid_of host.accounts);
  gids = number_of_host host (gid_of host.accounts);
}

-- What is printed of a name is read as the name.
use Rattle.std.proofs.Common.{◌≡◌, ◌∙◌, ℕ, ◌==◌, ◌||◌, ◌&&◌, true, false, cond, List, [], ◌∷◌, ◌++◌, refl}
use Rattle.std.proofs.Common.{sym, subst, ap, inl, inr, option_map}
use Rattle.std.specs.Char.{is_ascii_digit}
use Rattle.std.specs.List.{list_all, list_any}
use Rattle.std.proofs.lemmas.Bool.{cases_Bool, true≢false, or_parts, or_cases, and_parts}
use Rattle.std.proofs.lemmas.Bool.Decides.{Decides-eqb}
use Rattle.acl_names.specs.Bytes.{backslash, carriage_return, colon, comma, newline, space, tab}
use Rattle.acl_names.specs.Shown.{octal}
use Rattle.acl_names.specs.Ids.{Number, decimal_value}
use Rattle.acl_accounts.specs.Names.{is_quoted, quoted, quoted_byte, unquoted, splits, named, written_account}

-- what holds of the seven bytes holds of each byte that is written by its digits
of_each : (P : ℕ → Type 0) → P space → P tab → P newline → P carriage_return → P colon → P comma → P backslash
    → (byte : ℕ) → is_quoted byte ≡ true → P byte
of_each P of_space of_tab of_newline of_return of_colon of_comma of_backslash byte is =
    elim (or_cases _ (byte == backslash) is) [
      | inr e ↦ at backslash of_backslash e
      | inl is ↦ elim (or_cases _ (byte == comma) is) [
        | inr e ↦ at comma of_comma e
        | inl is ↦ elim (or_cases _ (byte == colon) is) [
          | inr e ↦ at colon of_colon e
          | inl is ↦ elim (or_cases _ (byte == carriage_return) is) [
            | inr e ↦ at carriage_return of_return e
            | inl is ↦ elim (or_cases _ (byte == newline) is) [
              | inr e ↦ at newline of_newline e
              | inl is ↦ elim (or_cases (byte == space) (byte == tab) is) [
                | inr e ↦ at tab of_tab e
                | inl e ↦ at space of_space e
              ]
            ]
          ]
        ]
      ]
    ]
  where
    at : (k : ℕ) → P k → (byte == k) ≡ true → P byte
    at k of_it e = subst P (sym ((Decides-eqb byte k).0 e)) of_it

-- a byte other than `\` is itself
plain_byte : (byte : ℕ) → (byte == backslash) ≡ false → (rest : List ℕ) → unquoted (byte ∷ rest) ≡ byte ∷ unquoted rest
plain_byte byte is [] = refl
plain_byte byte is (a ∷ []) = rw is refl
plain_byte byte is (a ∷ b ∷ []) = rw is refl
plain_byte byte is (a ∷ b ∷ c ∷ more) = rw is refl

-- without one, a text is itself
pub plain_text : (text : List ℕ) → list_any (λ byte. byte == backslash) text ≡ false → unquoted text ≡ text
plain_text [] plain = refl
plain_text (byte ∷ text) plain =
    let parts = or_parts (byte == backslash) (list_any (λ other. other == backslash) text) plain in
    plain_byte byte parts.0 text ∙ ap (λ rest. byte ∷ rest) (plain_text text parts.1)

byte_again : (byte : ℕ) (rest : List ℕ) → unquoted (quoted_byte byte ++ rest) ≡ byte ∷ unquoted rest
byte_again byte rest =
    elim (cases_Bool (is_quoted byte)) [
      | inl is ↦
          ap (λ b. unquoted (cond b (octal byte) (byte ∷ []) ++ rest)) is
          ∙ of_each (λ k. unquoted (octal k ++ rest) ≡ k ∷ unquoted rest) refl refl refl refl refl refl refl byte is
      | inr plain ↦ ap (λ b. unquoted (cond b (octal byte) (byte ∷ []) ++ rest)) plain ∙ plain_byte byte (or_parts _ (byte == backslash) plain).1 rest
    ]

pub unquoted_again : (name : List ℕ) → unquoted (quoted name) ≡ name
unquoted_again [] = refl
unquoted_again (byte ∷ name) = byte_again byte (quoted name) ∙ ap (λ rest. byte ∷ rest) (unquoted_again name)

-- what is printed is all digits if the name is
digits_again : (name : List ℕ) → list_all is_ascii_digit (quoted name) ≡ list_all is_ascii_digit name
digits_again [] = refl
digits_again (byte ∷ name) =
    elim (cases_Bool (is_quoted byte)) [
      | inl is ↦
          ap (λ b. list_all is_ascii_digit (cond b (octal byte) (byte ∷ []) ++ quoted name)) is
          ∙ of_each (λ k. false ≡ (is_ascii_digit k && list_all is_ascii_digit name)) refl refl refl refl refl refl refl byte is
      | inr plain ↦
          ap (λ b. list_all is_ascii_digit (cond b (octal byte) (byte ∷ []) ++ quoted name)) plain
          ∙ ap (λ b. is_ascii_digit byte && b) (digits_again name)
    ]

-- and then it is the name
digits_stay : (name : List ℕ) → list_all is_ascii_digit name ≡ true → quoted name ≡ name
digits_stay [] is = refl
digits_stay (byte ∷ name) is =
    elim (cases_Bool (is_quoted byte)) [
      | inl quoted_one ↦
          let other = of_each (λ k. is_ascii_digit k ≡ false) refl refl refl refl refl refl refl byte quoted_one in
          absurd (true≢false (sym (and_parts _ _ is).0 ∙ other))
      | inr plain ↦ ap (λ b. cond b (octal byte) (byte ∷ []) ++ quoted name) plain ∙ ap (λ rest. byte ∷ rest) (digits_stay name (and_parts _ _ is).1)
    ]

-- what is printed reads as the name, unless it is all digits
pub written_again : (name : List ℕ) → written_account (quoted name) ≡ cond (list_all is_ascii_digit name) (option_map Number (decimal_value name)) (named name)
written_again name =
    elim (cases_Bool (list_all is_ascii_digit name)) [
      | inl digits ↦
          let same = digits_stay name digits in
          ap written_account same ∙ ap (λ b. cond b (option_map Number (decimal_value name)) (named (unquoted name))) digits
          ∙ sym (ap (λ b. cond b (option_map Number (decimal_value name)) (named name)) digits)
      | inr other ↦
          ap (λ b. cond b (option_map Number (decimal_value (quoted name))) (named (unquoted (quoted name)))) (digits_again name ∙ other)
          ∙ ap named (unquoted_again name)
          ∙ sym (ap (λ b. cond b (option_map Number (decimal_value name)) (named name)) other)
    ]

-- nothing that is printed splits a line
pub nothing_splits : (name : List ℕ) → list_any splits (quoted name) ≡ false
nothing_splits [] = refl
nothing_splits (byte ∷ name) =
    let rest : list_any splits (quoted name) ≡ false = nothing_splits name in
    elim (cases_Bool (is_quoted byte)) [
      | inl is ↦
          ap (λ b. list_any splits (cond b (octal byte) (byte ∷ []) ++ quoted name)) is
          ∙ of_each (λ k. list_any splits (octal k ++ quoted name) ≡ false) rest rest rest rest rest rest rest byte is
      | inr plain ↦
          ap (λ b. list_any splits (cond b (octal byte) (byte ∷ []) ++ quoted name)) plain
          ∙ ap (λ b. b || list_any splits (quoted name)) (or_parts _ (byte == backslash) plain).0 ∙ rest
    ]

-- what is said of a printed name
pub ruleset printed_laws = (written_again, nothing_splits)

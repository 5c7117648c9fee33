-- PATH of `why` may be the path that a listing has, or what an answer prints for it.
use Rattle.std.proofs.Common.{◌≡◌, ◌∙◌, ◌++◌, ◌<◌, ◌+◌, ◌/◌, ◌%◌, ◌==◌, ℕ, true, false, cond, List, [], ◌∷◌, ap, append-nil, arith, inl, inr, refl, subst, sym}
use Rattle.std.proofs.lemmas.Bool.{cases_Bool, or_cases, or_parts}
use Rattle.std.proofs.lemmas.Bool.Decides.{Decides-eqb, nat_tests}
use Rattle.std.proofs.lemmas.Grind.{flat_map-append}
use Rattle.acl_names.specs.Bytes.{backslash, carriage_return, digit_0, newline}
use Rattle.acl_names.specs.Shown.{octal}
use Rattle.acl_accounts.specs.Names.{is_octal, octal_value}
use Rattle.acl_access.specs.Paths.{is_control, path_byte, printed_path}
use Rattle.acl_listing_queries.specs.PathLaws.{ListedPathsAreRead, PrintedPathsAreRead, listed_byte, listed_path}
use Rattle.acl_listing_queries.specs.PathWord.{as_listed, is_escaped}

-- what holds of the bytes that end a line, of `\` and of each other byte holds of any
of_each : (P : ℕ → Type 0) → P newline → P carriage_return → P backslash → ((byte : ℕ) → is_escaped byte ≡ false → P byte) → (byte : ℕ) → P byte
of_each P of_newline of_return of_backslash of_other byte =
    elim (cases_Bool (is_escaped byte)) [
      | inl is ↦ elim (or_cases _ (byte == backslash) is) [
        | inr e ↦ at backslash of_backslash e
        | inl is ↦ elim (or_cases (byte == newline) (byte == carriage_return) is) [
          | inr e ↦ at carriage_return of_return e
          | inl e ↦ at newline of_newline e
        ]
      ]
      | inr other ↦ of_other byte other
    ]
  where
    at : (k : ℕ) → P k → (byte == k) ≡ true → P byte
    at k of_it e = subst P (sym ((Decides-eqb byte k).0 e)) of_it

-- ---- one byte in front of a text

-- a byte other than `\` is itself
plain_byte : (byte : ℕ) → (byte == backslash) ≡ false → (rest : List ℕ) → as_listed (byte ∷ rest) ≡ byte ∷ as_listed rest
plain_byte byte is [] = refl
plain_byte byte is (a ∷ []) = refl
plain_byte byte is (a ∷ b ∷ []) = refl
plain_byte byte is (a ∷ b ∷ c ∷ more) = rw is refl

-- so is one that a listing has as it is
other_byte : (byte : ℕ) → is_escaped byte ≡ false → (rest : List ℕ) → as_listed (byte ∷ rest) ≡ byte ∷ as_listed rest
other_byte byte other = plain_byte byte (or_parts _ (byte == backslash) other).1

-- two backslashes stay
pair : (rest : List ℕ) → as_listed (backslash ∷ backslash ∷ rest) ≡ backslash ∷ backslash ∷ as_listed rest
pair [] = refl
pair (a ∷ []) = refl
pair (a ∷ b ∷ more) = refl

-- the digits of a byte that ends a line, which begin with `01`, stay
kept_digits : (last : ℕ) → (last == backslash) ≡ false → (rest : List ℕ) → backslash ∷ as_listed (48 ∷ 49 ∷ last ∷ rest) ≡ backslash ∷ 48 ∷ 49 ∷ last ∷ as_listed rest
kept_digits last is rest =
    ap (λ text. backslash ∷ text) (plain_byte 48 refl (49 ∷ last ∷ rest))
    ∙ ap (λ text. backslash ∷ 48 ∷ text) (plain_byte 49 refl (last ∷ rest))
    ∙ ap (λ text. backslash ∷ 48 ∷ 49 ∷ text) (plain_byte last is rest)

-- ---- control bytes

-- the digits of a byte that a listing has as it is are that byte
read_digits : (a b c byte : ℕ) → (a == backslash) ≡ false → is_octal backslash a b c ≡ true → octal_value a b c ≡ byte → is_escaped byte ≡ false
    → (rest : List ℕ) → as_listed (backslash ∷ a ∷ b ∷ c ∷ rest) ≡ byte ∷ as_listed rest
read_digits a b c byte first digits value other rest = rw (first, digits, value, other) refl

control_is_small : (byte : ℕ) → is_control byte ≡ true → byte < 128
control_is_small byte is = grind (arith, nat_tests)

-- the first digit of a small byte is no `\`
first_digit : (byte : ℕ) → byte < 128 → (digit_0 + byte / 64 == backslash) ≡ false
first_digit byte small = grind (arith, nat_tests)

-- its digits are octal
digits_are : (byte : ℕ) → byte < 128 → is_octal backslash (digit_0 + byte / 64) (digit_0 + byte / 8 % 8) (digit_0 + byte % 8) ≡ true
digits_are byte small = grind (arith, nat_tests)

-- and their value is the byte
value_is : (byte : ℕ) → byte < 128 → octal_value (digit_0 + byte / 64) (digit_0 + byte / 8 % 8) (digit_0 + byte % 8) ≡ byte
value_is byte small = omega arith

-- the digits of a control byte that a listing has as it is are that byte
control_digits : (byte : ℕ) → is_control byte ≡ true → is_escaped byte ≡ false → (rest : List ℕ) → as_listed (octal byte ++ rest) ≡ byte ∷ as_listed rest
control_digits byte is other =
    let small = control_is_small byte is in
    read_digits (digit_0 + byte / 64) (digit_0 + byte / 8 % 8) (digit_0 + byte % 8) byte (first_digit byte small) (digits_are byte small) (value_is byte small) other

-- ---- one byte of a path

-- most bytes are in a listing as they are
other_listed : (byte : ℕ) → is_escaped byte ≡ false → listed_byte byte ≡ byte ∷ []
other_listed byte other = rw (other, (or_parts _ (byte == backslash) other).1) refl

-- what a listing has for a byte stays in front of any text
listed_front : (byte : ℕ) (rest : List ℕ) → as_listed (listed_byte byte ++ rest) ≡ listed_byte byte ++ as_listed rest
listed_front byte rest =
    of_each (λ k. as_listed (listed_byte k ++ rest) ≡ listed_byte k ++ as_listed rest) (kept_digits 50 refl rest) (kept_digits 53 refl rest) (pair rest) by byte
  where
    by : (k : ℕ) → is_escaped k ≡ false → as_listed (listed_byte k ++ rest) ≡ listed_byte k ++ as_listed rest
    by k other = rw (other_listed k other) (other_byte k other rest)

-- what is printed for a byte that a listing has as it is reads as the byte
other_printed : (byte : ℕ) → is_escaped byte ≡ false → (rest : List ℕ) → as_listed (path_byte byte ++ rest) ≡ byte ∷ as_listed rest
other_printed byte other rest =
    elim (cases_Bool (is_control byte)) [
      | inl is ↦ ap (λ b. as_listed (cond b (octal byte) (byte ∷ []) ++ rest)) is ∙ control_digits byte is other rest
      | inr shown ↦ ap (λ b. as_listed (cond b (octal byte) (byte ∷ []) ++ rest)) shown ∙ other_byte byte other rest
    ]

-- what is printed for what a listing has reads as that
printed_front : (byte : ℕ) (rest : List ℕ) → as_listed (printed_path (listed_byte byte) ++ rest) ≡ listed_byte byte ++ as_listed rest
printed_front byte rest =
    of_each (λ k. as_listed (printed_path (listed_byte k) ++ rest) ≡ listed_byte k ++ as_listed rest) (kept_digits 50 refl rest) (kept_digits 53 refl rest) (pair rest) by byte
  where
    by : (k : ℕ) → is_escaped k ≡ false → as_listed (printed_path (listed_byte k) ++ rest) ≡ listed_byte k ++ as_listed rest
    by k other =
        rw (other_listed k other)
        (ap (λ front. as_listed (front ++ rest)) (append-nil (path_byte k)) ∙ other_printed k other rest)

-- ---- whole paths

pub listed_paths_are_read : ListedPathsAreRead
listed_paths_are_read [] = refl
listed_paths_are_read (byte ∷ path) = listed_front byte (listed_path path) ∙ ap (λ rest. listed_byte byte ++ rest) (listed_paths_are_read path)

pub printed_paths_are_read : PrintedPathsAreRead
printed_paths_are_read [] = refl
printed_paths_are_read (byte ∷ path) =
    ap as_listed (flat_map-append path_byte (listed_byte byte) (listed_path path))
    ∙ printed_front byte (printed_path (listed_path path))
    ∙ ap (λ rest. listed_byte byte ++ rest) (printed_paths_are_read path)

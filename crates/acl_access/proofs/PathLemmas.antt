-- Paths without control bytes are printed as they are.
use Rattle.std.proofs.Common.{◌≡◌, ◌∙◌, ◌++◌, ◌+◌, ◌-◌, ◌≤◌, ◌||◌, ℕ, Bool, true, false, cond, List, [], ◌∷◌, ap, arith, drop, length, refl, sym, take}
use Rattle.std.specs.List.{list_any}
use Rattle.std.proofs.Math.Bool.{or-true}
use Rattle.std.proofs.lemmas.Bool.{true≢false}
use Rattle.std.proofs.lemmas.List.{drop-drop, take-append-drop}
use Rattle.std.proofs.lemmas.List.Folds.{list_any-append}
use Rattle.acl_names.specs.Shown.{octal}
use Rattle.acl_access.specs.Paths.{is_control, printed_path}

pub as_it_is : (path : List ℕ) → list_any is_control path ≡ false → printed_path path ≡ path
as_it_is [] none = refl
as_it_is (byte ∷ path) none = by (is_control byte) none (as_it_is path)
  where
    by : (b : Bool) → (b || list_any is_control path) ≡ false → (list_any is_control path ≡ false → printed_path path ≡ path)
        → cond b (octal byte) (byte ∷ []) ++ printed_path path ≡ byte ∷ path
    by true none rest = cc
    by false none rest = ap (λ more. byte ∷ more) (rest none)

-- if one of all passes that is behind some front, one of a longer end does
any-behind : (front : Bool) (path : List ℕ) (n m : ℕ) → n ≤ m → list_any is_control path ≡ (front || list_any is_control (drop m path)) → list_any is_control path ≡ (front || list_any is_control (drop n path))
any-behind front path n m longer any = by front any
  where
    some_end : (path : List ℕ) (n : ℕ) → list_any is_control (drop n path) ≡ true → list_any is_control path ≡ true
    some_end path n some =
        ap (list_any is_control) (sym (take-append-drop n path)) ∙ list_any-append is_control (take n path) (drop n path)
        ∙ ap (λ b. list_any is_control (take n path) || b) some ∙ or-true (list_any is_control (take n path))

    by : (front : Bool) → list_any is_control path ≡ (front || list_any is_control (drop m path)) → list_any is_control path ≡ (front || list_any is_control (drop n path))
    by true any = any
    by false any = both (list_any is_control (drop m path)) refl (list_any is_control (drop n path)) refl any
      where
        both : (short : Bool) → list_any is_control (drop m path) ≡ short → (long : Bool) → list_any is_control (drop n path) ≡ long → list_any is_control path ≡ short → list_any is_control path ≡ long
        both short is true long_is any = some_end path n long_is
        both false is false long_is any = any
        both true is false long_is any =
            let again : drop m path ≡ drop (m - n) (drop n path) = ap (λ k. drop k path) (omega (arith, longer)) ∙ sym (drop-drop (m - n) n path) in
            absurd (true≢false (sym (some_end (drop n path) (m - n) (ap (list_any is_control) (sym again) ∙ is)) ∙ long_is))

-- one of a rest passes if one of its first bytes does, or of those behind them
pub any-chunk : (front : Bool) (rest : List ℕ) (n : ℕ) → (front || list_any is_control rest) ≡ ((front || list_any is_control (take n rest)) || list_any is_control (drop n rest))
any-chunk front rest n =
    ap (λ bytes. front || list_any is_control bytes) (sym (take-append-drop n rest))
    ∙ ap (λ b. front || b) (list_any-append is_control (take n rest) (drop n rest))
    ∙ joined front (list_any is_control (take n rest)) (list_any is_control (drop n rest))
  where
    joined : (a b c : Bool) → (a || (b || c)) ≡ ((a || b) || c)
    joined true b c = refl
    joined false b c = refl

-- a last chunk has all that a shorter rest has
pub any-end : (front : Bool) (path rest : List ℕ) (len : ℕ) → length rest ≤ len → len ≤ length path → rest ≡ drop (length path - length rest) path
    → list_any is_control path ≡ (front || list_any is_control rest) → list_any is_control path ≡ (front || list_any is_control (drop (length path - len) path))
any-end front path rest len short inside rest_is any =
    any-behind front path (length path - len) (length path - length rest) (omega (arith, short, inside)) (any ∙ ap (λ rest. front || list_any is_control rest) rest_is)

-- a rest behind a chunk is the end of all
pub rest-behind : (path rest behind : List ℕ) (n : ℕ) → length rest ≤ length path → rest ≡ drop (length path - length rest) path → behind ≡ drop n rest → length behind + n ≡ length rest
    → behind ≡ drop (length path - length behind) path
rest-behind path rest behind n short rest_is behind_is count =
    behind_is ∙ ap (drop n) rest_is ∙ drop-drop n (length path - length rest) path ∙ ap (λ k. drop k path) (omega (arith, short, count))

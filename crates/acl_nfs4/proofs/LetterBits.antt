-- Letters that are read by a list of their bits.
use Rattle.std.proofs.Common.{◌≡◌, ◌≢◌, ℕ, zero, suc, ◌<◌, ◌+◌, ◌==◌, Bool, true, false, cond, ◌&&◌, ◌||◌}
use Rattle.std.proofs.Common.{List, [], ◌∷◌, take, get_or, length, filter, nat_le, nat_lt, None, refl, sym}
use Rattle.std.proofs.Common.{ap, subst, ◌∙◌, arith, bit_and, bit_or, ◌⊎◌, inl, inr, slice_index}
use Rattle.std.specs.List.{AllByRecursion, list_any}
use Rattle.std.proofs.lemmas.Bool.{cases_Bool, eqb-true, true≢false, and_parts, or_parts}
use Rattle.std.proofs.lemmas.Bool.Decides.{nat_tests, Decides-eqb}
use Rattle.std.proofs.lemmas.Nat.Bits.{bit_at_or, same_from_bits}
use Rattle.acl_names.specs.Bits.{has}
use Rattle.acl_names.specs.Letters.{occurs, occurrences, is_letter_of, bits_of_rows, rows_in, letters_of}
use Rattle.acl_names.specs.declared.text.letters.Letter.{Letter}
use Rattle.acl_names.proofs.BitSets.{has-and, has-or, has-zero, no_bits}
use Rattle.acl_names.proofs.Counting.{list_any-count_by}
use Rattle.acl_names.proofs.LettersAgain.{bits_from}
use Rattle.acl_names.proofs.LettersInTurn.{AreRead, one_more_read, refused_letter, refused_repeat}
use Rattle.acl_nfs4.specs.LetterBits.{BitsDiffer, GivesBitsOf}
use Rattle.acl_nfs4.specs.Letters.{flag_table, mask_table}
use Rattle.acl_nfs4.specs.declared.letter_bits.TheConstants.{FLAG_BITS, MASK_BITS}

-- ---- the bits of rows
has-rows : (row : Letter) (rows : List Letter) (k : ℕ) → has (bits_of_rows (row ∷ rows)) k ≡ (has row.bit k || has (bits_of_rows rows) k)
has-rows row rows k =
    ap (λ n. has n k) (same_from_bits _ _ (λ i. bits_from row.bit i rows ∙ sym (bit_at_or row.bit (bits_of_rows rows) i)))
    ∙ has-or row.bit (bits_of_rows rows) k

-- rows that pass have no bit that all rows lack
has-filter : (p : Letter → Bool) (rows : List Letter) (k : ℕ) → has (bits_of_rows (filter p rows)) k ≡ true → has (bits_of_rows rows) k ≡ true
has-filter p [] k set = set
has-filter p (row ∷ rows) k set = has-rows row rows k ∙ go (has-filter p rows k) (p row) (has row.bit k) refl set
  where
    go : (has (bits_of_rows (filter p rows)) k ≡ true → has (bits_of_rows rows) k ≡ true) → (b r : Bool)
        → has row.bit k ≡ r → has (bits_of_rows (cond b (row ∷ filter p rows) (filter p rows))) k ≡ true
        → (has row.bit k || has (bits_of_rows rows) k) ≡ true
    go inside b true here set = ap (λ t. t || has (bits_of_rows rows) k) here
    go inside true false here set =
        let later : has (bits_of_rows (filter p rows)) k ≡ true = ap (λ t. t || has (bits_of_rows (filter p rows)) k) (sym here) ∙ sym (has-rows row (filter p rows) k) ∙ set in
        ap (λ t. t || has (bits_of_rows rows) k) here ∙ inside later
    go inside false false here set = ap (λ t. t || has (bits_of_rows rows) k) here ∙ inside set

-- rows that pass the second test have no bit that those lack which pass the first, if the second is the stronger
has-stronger : (p q : Letter → Bool) → ((row : Letter) → q row ≡ true → p row ≡ true) → (rows : List Letter) (k : ℕ)
    → has (bits_of_rows (filter q rows)) k ≡ true → has (bits_of_rows (filter p rows)) k ≡ true
has-stronger p q stronger [] k set = set
has-stronger p q stronger (row ∷ rows) k set = go (has-stronger p q stronger rows k) (p row) (q row) (stronger row) set
  where
    either : (has (bits_of_rows (filter q rows)) k ≡ true → has (bits_of_rows (filter p rows)) k ≡ true)
        → (r : Bool) → has row.bit k ≡ r → (has row.bit k || has (bits_of_rows (filter q rows)) k) ≡ true
        → (has row.bit k || has (bits_of_rows (filter p rows)) k) ≡ true
    either later true here set = ap (λ t. t || has (bits_of_rows (filter p rows)) k) here
    either later false here set =
        ap (λ t. t || has (bits_of_rows (filter p rows)) k) here
        ∙ later (ap (λ t. t || has (bits_of_rows (filter q rows)) k) (sym here) ∙ set)

    behind : (r : Bool) → has (bits_of_rows (filter p rows)) k ≡ true → (r || has (bits_of_rows (filter p rows)) k) ≡ true
    behind true set = refl
    behind false set = set

    go : (has (bits_of_rows (filter q rows)) k ≡ true → has (bits_of_rows (filter p rows)) k ≡ true)
        → (b c : Bool) → (c ≡ true → b ≡ true) → has (bits_of_rows
        (cond c (row ∷ filter q rows) (filter q rows))) k ≡ true
        → has (bits_of_rows (cond b (row ∷ filter p rows) (filter p rows))) k ≡ true
    go later true true is set =
        has-rows row (filter p rows) k ∙ either later (has row.bit k) refl (sym (has-rows row (filter q rows) k) ∙ set)
    go later true false is set = has-rows row (filter p rows) k ∙ behind (has row.bit k) (later set)
    go later false true is set = absurd (true≢false (sym (is refl)))
    go later false false is set = later set

-- rows of two tests that no row passes both have no bit in common
apart : (p q : Letter → Bool) → ((row : Letter) → p row ≡ true → q row ≡ false) → (rows : List Letter) → BitsDiffer rows → (k : ℕ)
    → (has (bits_of_rows (filter p rows)) k && has (bits_of_rows (filter q rows)) k) ≡ false
apart p q other [] differ k = ap (λ b. b && has 0 k) (has-zero k)
apart p q other (row ∷ rows) differ k = go (apart p q other rows differ.1 k) (p row) (q row) (other row)
  where
    own : (has row.bit k && has (bits_of_rows rows) k) ≡ false
    own = sym (has-and row.bit (bits_of_rows rows) k) ∙ ap (λ n. has n k) differ.0 ∙ has-zero k

    in_front : (r all f g : Bool) → (r && all) ≡ false → (g ≡ true → all ≡ true) → (f && g) ≡ false → ((r || f) && g) ≡ false
    in_front true all f true e inside none = absurd (true≢false (sym (inside refl) ∙ e))
    in_front true all f false e inside none = refl
    in_front false all f g e inside none = none

    other_way : (f g : Bool) → (f && g) ≡ false → (g && f) ≡ false
    other_way true true e = e
    other_way true false e = refl
    other_way false true e = refl
    other_way false false e = refl

    go : (has (bits_of_rows (filter p rows)) k && has (bits_of_rows (filter q rows)) k) ≡ false → (b c : Bool) → (b ≡ true → c ≡ false)
        → (has (bits_of_rows (cond b (row ∷ filter p rows) (filter p rows))) k && has (bits_of_rows (cond c (row ∷ filter q rows) (filter q rows))) k) ≡ false
    go later true true is = absurd (true≢false (is refl))
    go later true false is =
        ap (λ b. b && has (bits_of_rows (filter q rows)) k) (has-rows row (filter p rows) k)
        ∙ in_front (has row.bit k) (has (bits_of_rows rows) k) (has (bits_of_rows (filter p rows)) k) (has (bits_of_rows (filter q rows)) k) own (has-filter q rows k) later
    go later false true is =
        other_way (has (bits_of_rows (row ∷ filter q rows)) k) (has (bits_of_rows (filter p rows)) k)
        (ap (λ b. b && has (bits_of_rows (filter p rows)) k) (has-rows row (filter q rows) k)
        ∙ in_front (has row.bit k) (has (bits_of_rows rows) k) (has (bits_of_rows (filter q rows)) k) (has (bits_of_rows (filter p rows)) k) own (has-filter p rows k)
        (other_way (has (bits_of_rows (filter p rows)) k) (has (bits_of_rows (filter q rows)) k) later))
    go later false false is = later

-- ---- the rows of a letter
module _ (byte : ℕ) where
  abbrev own : Letter → Bool
  own row = row.letter == byte

  none_own : (rows : List Letter) → is_letter_of rows byte ≡ false → bits_of_rows (filter own rows) ≡ 0
  none_own [] none = refl
  none_own (row ∷ rows) none = go (none_own rows) (row.letter == byte) none
    where
      go : (is_letter_of rows byte ≡ false → bits_of_rows (filter own rows) ≡ 0) → (b : Bool)
          → (b || is_letter_of rows byte) ≡ false → bits_of_rows (cond b (row ∷ filter own rows) (filter own rows)) ≡ 0
      go later true e = absurd (true≢false e)
      go later false e = later e

  some_own : (rows : List Letter) → AllByRecursion (λ row. (row.bit == 0) ≡ false) rows → is_letter_of rows byte ≡ true
      → bits_of_rows (filter own rows) ≢ 0
  some_own [] stand is none = absurd (true≢false (sym is))
  some_own (row ∷ rows) stand is none = go (some_own rows stand.1) (row.letter == byte) is none
    where
      go : (is_letter_of rows byte ≡ true → bits_of_rows (filter own rows) ≢ 0) → (b : Bool)
          → (b || is_letter_of rows byte) ≡ true → bits_of_rows (cond b (row ∷ filter own rows) (filter own rows)) ≢ 0
      go later true e none =
          let empty : row.bit ≡ 0 = no_bits row.bit (λ k. (or_parts (has row.bit k)
          (has (bits_of_rows (filter own rows)) k) (sym (has-rows row (filter own rows) k)
          ∙ ap (λ n. has n k) none ∙ has-zero k)).0) in
          absurd (true≢false (sym ((Decides-eqb row.bit 0).1 empty) ∙ stand.0))
      go later false e none = later e none

  is_own : (row : Letter) → own row ≡ true → row.letter ≡ byte
  is_own row same = eqb-true row.letter byte same

  some_occurs : (n : ℕ) → nat_le 1 n ≡ nat_lt 0 n
  some_occurs n = grind (arith, nat_tests)

  occurs_is : (front : List ℕ) → occurs byte front ≡ list_any (λ x. x == byte) front
  occurs_is front = some_occurs (occurrences byte front) ∙ sym (list_any-count_by (λ x. x == byte) front)

-- a letter that stands in the text has its bit among those of the text, and one that doesn't has not
module _ (table : List Letter) (front : List ℕ) (byte : ℕ) where
  abbrev bit : ℕ
  bit = bits_of_rows (filter (own byte) table)

  stands_apart : BitsDiffer table → list_any (λ x. x == byte) front ≡ false → bit_and (bits_of_rows (rows_in table front)) bit ≡ 0
  stands_apart differ absent =
      no_bits _ (λ k. has-and (bits_of_rows (rows_in table front)) bit k
      ∙ apart (λ row. occurs row.letter front) (own byte) reports table differ k)
    where
      reports : (row : Letter) → occurs row.letter front ≡ true → own byte row ≡ false
      reports row stands = elim (cases_Bool (own byte row)) [
        | inl same ↦ absurd (true≢false (sym stands ∙ ap (λ l. occurs l front) (is_own byte row same) ∙ occurs_is byte front ∙ absent))
        | inr other ↦ other
      ]

  stands_among : bit ≢ 0 → list_any (λ x. x == byte) front ≡ true → bit_and (bits_of_rows (rows_in table front)) bit ≢ 0
  stands_among some present none = some (no_bits bit (λ k. lacks k (has bit k) refl))
    where
      among : (row : Letter) → own byte row ≡ true → occurs row.letter front ≡ true
      among row same = ap (λ l. occurs l front) (is_own byte row same) ∙ occurs_is byte front ∙ present

      lacks : (k : ℕ) (b : Bool) → has bit k ≡ b → has bit k ≡ false
      lacks k true set =
          absurd (true≢false
          (sym (ap (λ b. b && has bit k) (has-stronger (λ row. occurs row.letter front) (own byte) among table k set) ∙ set)
          ∙ sym (has-and (bits_of_rows (rows_in table front)) bit k) ∙ ap (λ n. has n k) none ∙ has-zero k))
      lacks k false set = set

-- ---- one more letter, by its bit
module _ (table : List Letter) (bits_of : List ℕ) (gives : GivesBitsOf bits_of table) (text : List ℕ) (i bits bit : ℕ) (inside : i < length text)
    (read : AreRead table (take i text) bits) (is_byte : get_or text i 0 < 256) (is : bit ≡ slice_index bits_of (get_or text i 0)) where
  abbrev here : ℕ
  here = get_or text i 0

  bit_is : bit ≡ bits_of_rows (filter (own here) table)
  bit_is = is ∙ gives.each here is_byte

  same_bits : bit_and bits bit ≡ bit_and (bits_of_rows (rows_in table (take i text))) (bits_of_rows (filter (own here) table))
  same_bits = ap (λ n. bit_and n bit) read.sum ∙ ap (bit_and (bits_of_rows (rows_in table (take i text)))) bit_is

  pub refused_zero : bit ≡ 0 → letters_of table text ≡ None
  refused_zero none = refused_letter table text i inside (go (is_letter_of table here) refl)
    where
      go : (b : Bool) → is_letter_of table here ≡ b → is_letter_of table here ≡ false
      go true letter = absurd (some_own here table gives.bits_stand letter (sym bit_is ∙ none))
      go false letter = letter

  is_letter : bit ≢ 0 → is_letter_of table here ≡ true
  is_letter some = go (is_letter_of table here) refl
    where
      go : (b : Bool) → is_letter_of table here ≡ b → is_letter_of table here ≡ true
      go true letter = letter
      go false letter = absurd (some (bit_is ∙ none_own here table letter))

  pub refused_again : bit ≢ 0 → bit_and bits bit ≢ 0 → letters_of table text ≡ None
  refused_again some again = refused_repeat table text i inside (is_letter some) (go (list_any (λ x. x == here) (take i text)) refl)
    where
      go : (b : Bool) → list_any (λ x. x == here) (take i text) ≡ b → list_any (λ x. x == here) (take i text) ≡ true
      go true stands = stands
      go false absent = absurd (again (same_bits ∙ stands_apart table (take i text) here gives.bits_differ absent))

  pub read_more : bit ≢ 0 → bit_and bits bit ≡ 0 → AreRead table (take (i + 1) text) (bit_or bits bit)
  read_more some new =
      subst (λ n. AreRead table (take (i + 1) text) (bit_or bits n)) (sym bit_is)
      (one_more_read table text i bits inside read (is_letter some) (go (list_any (λ x. x == here) (take i text)) refl))
    where
      go : (b : Bool) → list_any (λ x. x == here) (take i text) ≡ b → list_any (λ x. x == here) (take i text) ≡ false
      go true stands = absurd (stands_among table (take i text) here (λ none. some (bit_is ∙ none)) stands (sym same_bits ∙ new))
      go false absent = absent

-- ---- the lists say what the tables say, byte by byte
abbrev holds_below : (ℕ → Bool) → ℕ → Bool
holds_below test zero = true
holds_below test (suc n) = test n && holds_below test n

holds_at : (test : ℕ → Bool) (n i : ℕ) → holds_below test n ≡ true → i < n → test i ≡ true
holds_at test zero i all below = absurd (omega arith)
holds_at test (suc n) i all below = go (holds_at test n i) (cases_Bool (i == n)) (and_parts (test n) (holds_below test n) all)
  where
    go : (holds_below test n ≡ true → i < n → test i ≡ true) → ((i == n) ≡ true) ⊎ ((i == n) ≡ false) → (test n ≡ true) × (holds_below test n ≡ true) → test i ≡ true
    go later (inl same) both = ap test (eqb-true i n same) ∙ both.0
    go later (inr other) both = later both.1 (let apart : i ≢ n = λ e. true≢false (sym ((Decides-eqb i n).1 e) ∙ other) in omega (arith, apart))

abbrev same_bit : List ℕ → List Letter → ℕ → Bool
same_bit bits table byte = slice_index bits byte == bits_of_rows (filter (λ row. row.letter == byte) table)

each_byte : (bits : List ℕ) (table : List Letter) → holds_below (same_bit bits table) 256 ≡ true
    → (byte : ℕ) → byte < 256 → slice_index bits byte ≡ bits_of_rows (filter (λ row. row.letter == byte) table)
each_byte bits table all byte below = eqb-true _ _ (holds_at (same_bit bits table) 256 byte all below)

pub flag_bits_given : GivesBitsOf FLAG_BITS flag_table
flag_bits_given = record {
  each = each_byte FLAG_BITS flag_table refl;
  bits_stand = (refl, (refl, (refl, (refl, (refl, (refl, (refl, tt)))))));
  bits_differ = (refl, (refl, (refl, (refl, (refl, (refl, (refl, tt)))))));
}

pub mask_bits_given : GivesBitsOf MASK_BITS mask_table
mask_bits_given = record {
  each = each_byte MASK_BITS mask_table refl;
  bits_stand = (refl, (refl, (refl, (refl, (refl, (refl, (refl, (refl, (refl, (refl, (refl, (refl, (refl, (refl, tt))))))))))))));
  bits_differ = (refl, (refl, (refl, (refl, (refl, (refl, (refl, (refl, (refl, (refl, (refl, (refl, (refl, (refl, tt))))))))))))));
}

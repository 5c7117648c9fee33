-- What is said at the end of a listing, by what became of its blocks.
use Rattle.std.proofs.Common.{◌≡◌, ◌∙◌, ◌++◌, ◌==◌, ◌<◌, ◌&&◌, ℕ, ◌+◌, Bool, true, false, cond, List, [], ◌∷◌, Option, Some, None, ap, append_assoc, arith, codes, decimal, inl, inr, is_some, length, not, refl, sym, ◌||◌}
use Rattle.std.specs.List.{count_by, list_all, list_any}
use Rattle.std.proofs.lemmas.Bool.{and_parts, cases_Bool, eq-eqb, ltb-false, ltb-true, ne_eqb, or_left}
use Rattle.std.proofs.lemmas.List.Sums.{count_by-le-length}
use Rattle.acl_cli.specs.ErrorOutput.{line_of_words}
use Rattle.acl_cli.specs.declared.command.Ending.TheVariants.{Answered, InPart}
use Rattle.acl_listings.specs.Guess.{guess_of}
use Rattle.acl_listings.specs.declared.fault.BlockFault.{BlockFault}
use Rattle.acl_listings.specs.declared.fault.BlockFault.TheVariants as fault
use Rattle.acl_listings.specs.declared.guess.Guess.{Guess}
use Rattle.acl_names.proofs.Counting.{count_by-cons, list_any-count_by}
use Rattle.acl_reports.specs.ClosingLaws.{ClosingShapes, EndingShapes, counts_line, is_malformed, is_refused, said_at_end, taken_for}
use Rattle.acl_reports.specs.Listed.{Item, count_line, ending_of, fault_in, first_guess, guess_line, is_fault, is_unread, no_blocks, tally_with, with_item}
use Rattle.acl_reports.specs.declared.tally.Tally.{Tally}

-- ---- what is counted of blocks

fault_counts : (what : Option BlockFault) → is_fault what ≡ cond (is_some what) 1 0
fault_counts None = refl
fault_counts (Some which) = refl

unread_counts : (what : Option BlockFault) → is_unread what ≡ cond (is_unread what == 1) 1 0
unread_counts None = refl
unread_counts (Some fault.TooLong) = refl
unread_counts (Some fault.BadHeader) = refl
unread_counts (Some fault.RepeatedPath) = refl
unread_counts (Some fault.UnknownOwner) = refl
unread_counts (Some fault.UnknownGroup) = refl
unread_counts (Some (fault.Acl why)) = refl
unread_counts (Some (fault.InvalidAcl rule)) = refl
unread_counts (Some fault.UnknownWay) = refl

malformed_refused : (what : Option BlockFault) → (is_unread what == 1) ≡ true → is_some what ≡ true
malformed_refused None is = is
malformed_refused (Some which) is = refl

blocks_on : (tally : Tally) (items : List Item) → (tally_with tally items).blocks ≡ tally.blocks + length items
blocks_on tally [] = let none : tally.blocks ≡ tally.blocks + 0 = omega arith in none
blocks_on tally (item ∷ items) =
    let more : (tally.blocks + 1) + length items ≡ tally.blocks + length (item ∷ items) = omega arith in
    blocks_on (with_item tally item) items ∙ more

faults_on : (tally : Tally) (items : List Item) → (tally_with tally items).faults ≡ tally.faults + count_by is_refused items
faults_on tally [] = let none : tally.faults ≡ tally.faults + 0 = omega arith in none
faults_on tally (item ∷ items) =
    let here = fault_counts (fault_in item.part) in
    let counted = count_by-cons is_refused item items in
    let more : (tally.faults + is_fault (fault_in item.part)) + count_by is_refused items ≡ tally.faults + count_by is_refused (item ∷ items) = omega arith in
    faults_on (with_item tally item) items ∙ more

unread_on : (tally : Tally) (items : List Item) → (tally_with tally items).unread ≡ tally.unread + count_by is_malformed items
unread_on tally [] = let none : tally.unread ≡ tally.unread + 0 = omega arith in none
unread_on tally (item ∷ items) =
    let here = unread_counts (fault_in item.part) in
    let counted = count_by-cons is_malformed item items in
    let more : (tally.unread + is_unread (fault_in item.part)) + count_by is_malformed items ≡ tally.unread + count_by is_malformed (item ∷ items) = omega arith in
    unread_on (with_item tally item) items ∙ more

guess_stays : (tally : Tally) (guess : Guess) → tally.guess ≡ Some guess → (items : List Item) → (tally_with tally items).guess ≡ Some guess
guess_stays tally guess is [] = is
guess_stays tally guess is (item ∷ items) = guess_stays (with_item tally item) guess (ap (λ known. first_guess known item.block.text) is) items

-- ---- how many pass a test

all_counted : {X : Type 0} (p : X → Bool) (xs : List X) → list_all p xs ≡ true → count_by p xs ≡ length xs
all_counted p [] all = refl
all_counted p (x ∷ xs) all =
    let both = and_parts (p x) (list_all p xs) all in
    let counted : count_by p (x ∷ xs) ≡ 1 + count_by p xs = count_by-cons p x xs ∙ ap (λ b. cond b 1 0 + count_by p xs) both.0 in
    let rest = all_counted p xs both.1 in
    omega arith

some_uncounted : {X : Type 0} (p : X → Bool) (xs : List X) → list_all p xs ≡ false → count_by p xs < length xs
some_uncounted p [] all = absurd (true_is_not_false all)
  where
    true_is_not_false : true ≡ false → ⊥
    true_is_not_false is = cc
some_uncounted p (x ∷ xs) all =
    elim (cases_Bool (p x)) [
      | inl passes ↦
          let one : count_by p (x ∷ xs) ≡ 1 + count_by p xs = count_by-cons p x xs ∙ ap (λ b. cond b 1 0 + count_by p xs) passes in
          let rest = some_uncounted p xs (sym (ap (λ b. b && list_all p xs) passes) ∙ all) in
          omega arith
      | inr fails ↦
          let none : count_by p (x ∷ xs) ≡ 0 + count_by p xs = count_by-cons p x xs ∙ ap (λ b. cond b 1 0 + count_by p xs) fails in
          let most = count_by-le-length p xs in
          omega arith
    ]

none_counted : {X : Type 0} (p : X → Bool) (xs : List X) → list_any p xs ≡ false → count_by p xs ≡ 0
none_counted p xs none =
    let least = ltb-false 0 (count_by p xs) (sym (list_any-count_by p xs) ∙ none) in
    omega arith

some_counted : {X : Type 0} (p : X → Bool) (xs : List X) → list_any p xs ≡ true → 0 < count_by p xs
some_counted p xs some = ltb-true 0 (count_by p xs) (sym (list_any-count_by p xs) ∙ some)

-- ---- what is said

module _ (name : List ℕ) (items : List Item) where
  abbrev whole : Tally
  whole = tally_with no_blocks items

  counts_as : count_line name whole ≡ counts_line name items
  counts_as =
      let said : ℕ → ℕ → List ℕ = λ faults blocks. line_of_words (name ++ codes ": " ++ decimal faults ++ codes " of " ++ decimal blocks ++ codes " files were not answered") in
      let faults : whole.faults ≡ 0 + count_by is_refused items = faults_on no_blocks items in
      let blocks : whole.blocks ≡ 0 + length items = blocks_on no_blocks items in
      let faults_are : whole.faults ≡ count_by is_refused items = omega arith in
      let blocks_are : whole.blocks ≡ length items = omega arith in
      ap (λ faults. said faults whole.blocks) faults_are ∙ ap (λ blocks. said (count_by is_refused items) blocks) blocks_are

  -- some aren't answered: there are blocks, and faults
  some_said : list_any is_refused items ≡ true → said_at_end name items ≡ cond (whole.unread == whole.blocks) (guess_line name whole.guess) [] ++ count_line name whole
  some_said some =
      let counted = some_counted is_refused items some in
      let most = count_by-le-length is_refused items in
      let blocks = blocks_on no_blocks items in
      let faults = faults_on no_blocks items in
      let last : List ℕ = cond (whole.unread == whole.blocks) (guess_line name whole.guess) [] ++ count_line name whole in
      let has : (whole.blocks == 0) ≡ false = ne_eqb whole.blocks 0 (λ is. omega arith) in
      let lacks : (whole.faults == 0) ≡ false = ne_eqb whole.faults 0 (λ is. omega arith) in
      ap (λ b. cond b (line_of_words (name ++ codes ": " ++ codes "no file")) (cond (whole.faults == 0) [] last)) has ∙ ap (λ b. cond b [] last) lacks

  in_part_said : list_any is_refused items ≡ true → list_all is_malformed items ≡ false → said_at_end name items ≡ counts_line name items
  in_part_said some read =
      let fewer = some_uncounted is_malformed items read in
      let blocks = blocks_on no_blocks items in
      let unread = unread_on no_blocks items in
      let other : (whole.unread == whole.blocks) ≡ false = ne_eqb whole.unread whole.blocks (λ is. omega arith) in
      some_said some ∙ ap (λ b. cond b (guess_line name whole.guess) [] ++ count_line name whole) other ∙ counts_as

  unread_said : list_any is_refused items ≡ true → list_all is_malformed items ≡ true → said_at_end name items ≡ guess_line name whole.guess ++ counts_line name items
  unread_said some none =
      let all = all_counted is_malformed items none in
      let blocks = blocks_on no_blocks items in
      let unread = unread_on no_blocks items in
      let same : (whole.unread == whole.blocks) ≡ true = eq-eqb whole.unread whole.blocks (omega arith) in
      some_said some ∙ ap (λ b. cond b (guess_line name whole.guess) [] ++ count_line name whole) same ∙ ap (λ text. guess_line name whole.guess ++ text) counts_as

answered_said : (name : List ℕ) (item : Item) (items : List Item) → list_any is_refused (item ∷ items) ≡ false → said_at_end name (item ∷ items) ≡ []
answered_said name item items none =
    let all = item ∷ items in
    let whole = tally_with no_blocks all in
    let counted = none_counted is_refused all none in
    let blocks = blocks_on no_blocks all in
    let faults = faults_on no_blocks all in
    let last : List ℕ = cond (whole.unread == whole.blocks) (guess_line name whole.guess) [] ++ count_line name whole in
    let has : (whole.blocks == 0) ≡ false = ne_eqb whole.blocks 0 (λ is. omega arith) in
    let well : (whole.faults == 0) ≡ true = eq-eqb whole.faults 0 (omega arith) in
    ap (λ b. cond b (line_of_words (name ++ codes ": " ++ codes "no file")) (cond (whole.faults == 0) [] last)) has ∙ ap (λ b. cond b [] last) well

none_read : (name : List ℕ) (item : Item) (items : List Item) → list_all is_malformed (item ∷ items) ≡ true
    → said_at_end name (item ∷ items) ≡ taken_for name item ++ counts_line name (item ∷ items)
none_read name item items none =
    let first = and_parts (is_malformed item) (list_all is_malformed items) none in
    let refused = malformed_refused (fault_in item.part) first.0 in
    let guess = guess_stays (with_item no_blocks item) (guess_of item.block.text) refl items in
    unread_said name (item ∷ items) (or_left (is_refused item) (list_any is_refused items) refused) none
    ∙ ap (λ guess. guess_line name guess ++ counts_line name (item ∷ items)) guess

pub closing_shapes : ClosingShapes
closing_shapes = record {
  no_block = λ name. ap line_of_words (append_assoc name (codes ": ") (codes "no file"));
  answered = answered_said;
  in_part = in_part_said;
  unread = none_read;
}

-- ---- how the answer ends

answered_ends : (item : Item) (items : List Item) → list_any is_refused (item ∷ items) ≡ false → ending_of (tally_with no_blocks (item ∷ items)) ≡ Answered
answered_ends item items none =
    let all = item ∷ items in
    let whole = tally_with no_blocks all in
    let counted = none_counted is_refused all none in
    let blocks = blocks_on no_blocks all in
    let faults = faults_on no_blocks all in
    let has : (whole.blocks == 0) ≡ false = ne_eqb whole.blocks 0 (λ is. omega arith) in
    let well : (whole.faults == 0) ≡ true = eq-eqb whole.faults 0 (omega arith) in
    ap (λ b. cond (b || not (whole.faults == 0)) InPart Answered) has ∙ ap (λ b. cond (not b) InPart Answered) well

in_part_ends : (items : List Item) → list_any is_refused items ≡ true → ending_of (tally_with no_blocks items) ≡ InPart
in_part_ends items some =
    let whole = tally_with no_blocks items in
    let counted = some_counted is_refused items some in
    let most = count_by-le-length is_refused items in
    let blocks = blocks_on no_blocks items in
    let faults = faults_on no_blocks items in
    let has : (whole.blocks == 0) ≡ false = ne_eqb whole.blocks 0 (λ is. omega arith) in
    let lacks : (whole.faults == 0) ≡ false = ne_eqb whole.faults 0 (λ is. omega arith) in
    ap (λ b. cond (b || not (whole.faults == 0)) InPart Answered) has ∙ ap (λ b. cond (not b) InPart Answered) lacks

pub ending_shapes : EndingShapes
ending_shapes = record { no_block = refl; answered = answered_ends; in_part = in_part_ends }

-- The closing lines of a listing, and how the answer ends, by what became of its blocks.
use Rattle.std.specs.Prelude.{◌≡◌, ◌==◌, ℕ, Bool, true, false, List, [], ◌∷◌, ◌++◌, codes}
use Rattle.std.specs.Prelude.{decimal, is_some, length}
use Rattle.std.specs.List.{count_by, list_all, list_any}
use Rattle.acl_cli.specs.ErrorOutput.{line_of_words}
use Rattle.acl_cli.specs.declared.command.Ending.TheVariants.{Answered, InPart}
use Rattle.acl_listings.specs.Guess.{guess_of, guess_words}
use Rattle.acl_reports.specs.Listed.{Item, closing, ending_of, fault_in, is_unread, no_blocks}
use Rattle.acl_reports.specs.Listed.{tally_with}

-- the block can't be evaluated
abbrev pub is_refused : Item → Bool
is_refused item = is_some (fault_in item.part)

-- the block is malformed, whatever its parents are
abbrev pub is_malformed : Item → Bool
is_malformed item = is_unread (fault_in item.part) == 1

abbrev pub said_at_end : List ℕ → List Item → List ℕ
said_at_end name items = closing name (tally_with no_blocks items)

abbrev pub counts_line : List ℕ → List Item → List ℕ
counts_line name items = line_of_words (name ++ codes ": " ++ decimal (count_by is_refused items)
    ++ codes " of " ++ decimal (length items) ++ codes " files were not answered")

abbrev pub taken_for : List ℕ → Item → List ℕ
taken_for name item = line_of_words (name ++ codes ": " ++ guess_words (guess_of item.block.text))

-- without blocks there is a line about that; if all can be evaluated, none; if some can't, and some
-- are files, a line with how many can't; and if none is a file, before it a guess about the first
pub record ClosingShapes : Type 0 where
  pub no_block : (name : List ℕ) → said_at_end name [] ≡ line_of_words (name ++ codes ": no file")
  pub answered : (name : List ℕ) (item : Item) (items : List Item)
      → list_any is_refused (item ∷ items) ≡ false → said_at_end name (item ∷ items) ≡ []
  pub in_part : (name : List ℕ) (items : List Item) → list_any is_refused items ≡ true
      → list_all is_malformed items ≡ false → said_at_end name items ≡ counts_line name items
  pub unread : (name : List ℕ) (item : Item) (items : List Item)
      → list_all is_malformed (item ∷ items) ≡ true
      → said_at_end name (item ∷ items) ≡ taken_for name item ++ counts_line name (item ∷ items)

-- the answer is partial exactly if there is no block, or one can't be evaluated
pub record EndingShapes : Type 0 where
  pub no_block : ending_of (tally_with no_blocks []) ≡ InPart
  pub answered : (item : Item) (items : List Item) → list_any is_refused (item ∷ items) ≡ false
      → ending_of (tally_with no_blocks (item ∷ items)) ≡ Answered
  pub in_part : (items : List Item) → list_any is_refused items ≡ true
      → ending_of (tally_with no_blocks items) ≡ InPart

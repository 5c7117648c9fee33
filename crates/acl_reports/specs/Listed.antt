-- What is reported for a listing, block by block, and how the answer ends.
use Rattle.std.specs.Prelude.{◌≡◌, ◌⊎◌, ℕ, ◌+◌, ◌==◌, ◌||◌, not, List, [], ◌∷◌, ◌++◌, fold}
use Rattle.std.specs.Prelude.{IfSome, Option, Some, None, Result, Ok, Err, codes, decimal}
use Rattle.std.specs.Prelude.{if◌then◌else◌}
use Rattle.std.specs.List.{flat_map}
use Rattle.acl_names.specs.Names.{Names}
use Rattle.acl_cli.specs.Commands.{Answer}
use Rattle.acl_cli.specs.ErrorOutput.{line_of_words}
use Rattle.acl_cli.specs.declared.command.Ending.{Ending}
use Rattle.acl_cli.specs.declared.command.Ending.TheVariants.{Answered, InPart}
use Rattle.acl_listings.specs.Cursor.{blocks_to_come}
use Rattle.acl_listings.specs.FaultyLine.{IsFaultyAt, line_at}
use Rattle.acl_listings.specs.Faults.{fault_word}
use Rattle.acl_listings.specs.Guess.{guess_of, guess_words}
use Rattle.acl_listings.specs.Listing.{Block}
use Rattle.acl_listings.specs.Rules.{rule_word}
use Rattle.acl_names.specs.Shown.{shown}
use Rattle.acl_listings.specs.declared.fault.BlockFault.{BlockFault}
use Rattle.acl_listings.specs.declared.fault.BlockFault.TheVariants.{InvalidAcl, UnknownWay}
use Rattle.acl_listings.specs.declared.guess.Guess.{Guess}
use Rattle.acl_reports.specs.Strangers.{no_strangers, none_sought, strangers_line, with_stranger}
use Rattle.acl_reports.specs.declared.stranger.Stranger.{Stranger}
use Rattle.acl_reports.specs.declared.strangers.Strangers.{Strangers}
use Rattle.acl_reports.specs.declared.tally.Tally.{Tally}

-- what a block results in: what is reported for it, or why that isn't known
abbrev pub Part : Type 0
Part = Result (List ℕ) BlockFault

-- a block, and what it results in
pub record Item : Type 0 where
  pub block : Block
  pub part : Part

-- blocks behind these texts, each with what it results in behind those before it
abbrev pub items_after : (List (List ℕ) → List ℕ → Part) → List (List ℕ) → List Block → List Item
items_after part earlier [] = []
items_after part earlier (block ∷ blocks) =
    record { block = block; part = part earlier block.text }
    ∷ items_after part (earlier ++ block.text ∷ []) blocks

-- what is reported on standard output
abbrev pub reported_of : Part → List ℕ
reported_of (Ok text) = text
reported_of (Err fault) = []

abbrev pub reported : List Item → List ℕ
reported items = flat_map (λ item. reported_of item.part) items

-- the word of a fault, and the rule that a list breaks
abbrev pub fault_words : BlockFault → List ℕ
fault_words (InvalidAcl rule) = codes "invalid-acl " ++ rule_word rule
fault_words fault = fault_word fault

-- the line is `aclctl: LISTING:LINE: WORD: TEXT`, of the block's line at fault
abbrev pub IsFaultLine : List ℕ → Names → Block → BlockFault → List ℕ → Type 0
IsFaultLine name names block fault line = (at : ℕ) × IsFaultyAt names fault block.text at
    × (line ≡ line_of_words (name ++ codes ":" ++ decimal (block.line + at) ++ codes ": "
    ++ fault_words fault ++ codes ": " ++ shown (line_at block.text at)))

-- the text is what is said of a block on standard error: its fault's line, if there is one
abbrev pub IsSaid : List ℕ → Names → Block → Part → List ℕ → Type 0
IsSaid name names block (Ok reported) text = text ≡ []
IsSaid name names block (Err fault) text = IsFaultLine name names block fault text

-- of each of them, one after the other
abbrev pub AreSaid : List ℕ → Names → List Item → List ℕ → Type 0
AreSaid name names [] text = text ≡ []
AreSaid name names (item ∷ items) text = (first : List ℕ) × (rest : List ℕ)
    × IsSaid name names item.block item.part first × AreSaid name names items rest
    × (text ≡ first ++ rest)

-- how many blocks there were, how many weren't answered, how many are malformed, and what the first
-- was taken for

abbrev pub no_blocks : Tally
no_blocks = record { blocks = 0; faults = 0; unread = 0; guess = None }

-- what is wrong with a block
abbrev pub fault_in : Part → Option BlockFault
fault_in (Ok text) = None
fault_in (Err fault) = Some fault

-- a block that isn't answered; one of which only the way is unknown reads all the same
abbrev pub is_fault : Option BlockFault → ℕ
is_fault None = 0
is_fault (Some fault) = 1

abbrev pub is_unread : Option BlockFault → ℕ
is_unread None = 0
is_unread (Some UnknownWay) = 0
is_unread (Some fault) = 1

abbrev pub first_guess : Option Guess → List ℕ → Option Guess
first_guess (Some guess) text = Some guess
first_guess None text = Some (guess_of text)

-- a block more with this text, of which this is wrong, if anything is
abbrev pub counted : Tally → List ℕ → Option BlockFault → Tally
counted tally text fault = record {
  blocks = tally.blocks + 1;
  faults = tally.faults + is_fault fault;
  unread = tally.unread + is_unread fault;
  guess = first_guess tally.guess text;
}

abbrev pub with_item : Tally → Item → Tally
with_item tally item = counted tally item.block.text (fault_in item.part)

abbrev pub tally_with : Tally → List Item → Tally
tally_with tally items = fold with_item tally items

abbrev pub guess_line : List ℕ → Option Guess → List ℕ
guess_line name (Some guess) = line_of_words (name ++ codes ": " ++ guess_words guess)
guess_line name None = []

-- `aclctl: LISTING: N of M files were not answered`
abbrev pub count_line : List ℕ → Tally → List ℕ
count_line name tally = line_of_words (name ++ codes ": " ++ decimal tally.faults ++ codes " of "
    ++ decimal tally.blocks ++ codes " files were not answered")

-- what is said at the end: that there is no block; or how many weren't answered, if there are any,
-- and what the listing may be if none reads
abbrev pub closing : List ℕ → Tally → List ℕ
closing name tally =
    if tally.blocks == 0 then line_of_words (name ++ codes ": " ++ codes "no file")
    else if tally.faults == 0 then []
    else (if tally.unread == tally.blocks then guess_line name tally.guess else [])
    ++ count_line name tally

abbrev pub ending_of : Tally → Ending
ending_of tally =
    if (tally.blocks == 0) || not (tally.faults == 0) then InPart else Answered

-- how many of these files name ids without an account, where their texts do so first
abbrev pub with_stranger_of : (List ℕ → Option Stranger) → Strangers → Item → Strangers
with_stranger_of stranger strangers item =
    with_stranger strangers item.block.line (stranger item.block.text)

abbrev pub strangers_with : (List ℕ → Option Stranger) → Strangers → List Item → Strangers
strangers_with stranger strangers items = fold (with_stranger_of stranger) strangers items

-- all that is said at the end
abbrev pub last_lines : List ℕ → Tally → Strangers → List ℕ
last_lines name tally strangers =
    closing name tally ++ strangers_line name tally.blocks strangers

abbrev pub last_lines_with : List ℕ → (List ℕ → Option Stranger) → Tally → Strangers → List Item
    → List ℕ
last_lines_with name stranger tally strangers items =
    last_lines name (tally_with tally items) (strangers_with stranger strangers items)

-- the texts are what is reported and said of the first of them, and maybe at the end, of a listing
-- of which so much was counted before
pub record AreBegun (name : List ℕ) (names : Names) (stranger : List ℕ → Option Stranger)
    (tally : Tally) (strangers : Strangers) (items : List Item) (text more : List ℕ) : Type 0 where
  pub first : List Item
  pub rest : List Item
  pub are : items ≡ first ++ rest
  pub text_is : text ≡ reported first
  pub said : List ℕ
  pub said_are : AreSaid name names first said
  pub more_is : (more ≡ said)
      ⊎ ((rest ≡ []) × (more ≡ said ++ last_lines_with name stranger tally strangers first))

-- the answer about the listing of this name, of whose blocks this is reported
pub record IsAnswer (name : List ℕ) (names : Names) (stranger : List ℕ → Option Stranger)
    (items : List Item) (answer : Answer) : Type 0
  where
    pub text : answer.text ≡ reported items
    pub said : List ℕ
    pub said_are : AreSaid name names items said
    pub beside : answer.beside
        ≡ said ++ last_lines_with name stranger no_blocks no_strangers items
    pub ending : answer.ending ≡ ending_of (tally_with no_blocks items)

-- and as far as it is begun
abbrev pub IsBegunAnswer : List ℕ → Names → (List ℕ → Option Stranger) → List Item → Answer
    → Type 0
IsBegunAnswer name names stranger items answer =
    AreBegun name names stranger no_blocks no_strangers items answer.text answer.beside

-- of a listing with these bytes, if they are known: of a block that is too long its first bytes
abbrev pub AnswersNaming : List ℕ → Names → (List (List ℕ) → List ℕ → Part)
    → (List ℕ → Option Stranger) → Option (List ℕ) → Answer → Type 0
AnswersNaming name names part stranger bytes answer =
    IfSome (blocks_to_come 1 bytes) (λ blocks.
    IsAnswer name names stranger (items_after part [] blocks) answer)

abbrev pub BeginsNaming : List ℕ → Names → (List (List ℕ) → List ℕ → Part)
    → (List ℕ → Option Stranger) → Option (List ℕ) → Answer → Type 0
BeginsNaming name names part stranger bytes answer = IfSome (blocks_to_come 1 bytes) (λ blocks.
    IsBegunAnswer name names stranger (items_after part [] blocks) answer)

-- where ids without an account aren't looked for
abbrev pub AnswersListing : List ℕ → Names → (List (List ℕ) → List ℕ → Part) → Option (List ℕ)
    → Answer → Type 0
AnswersListing name names part bytes answer =
    AnswersNaming name names part none_sought bytes answer

abbrev pub BeginsListing : List ℕ → Names → (List (List ℕ) → List ℕ → Part) → Option (List ℕ)
    → Answer → Type 0
BeginsListing name names part bytes answer =
    BeginsNaming name names part none_sought bytes answer

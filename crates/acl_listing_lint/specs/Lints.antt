-- What `lint` answers of the blocks of a listing.
use Rattle.std.specs.Prelude.{◌≡◌, ◌⊎◌, ◌&&◌, ℕ, Bool, not, List, [], ◌∷◌, ◌++◌, Option}
use Rattle.std.specs.Prelude.{IfSome}
use Rattle.acl_cli.specs.Commands.{Answer}
use Rattle.acl_cli.specs.Reporting.{is_empty}
use Rattle.acl_listings.specs.Cursor.{blocks_to_come}
use Rattle.acl_listings.specs.Listing.{Block}
use Rattle.acl_people.specs.Host.{names_of_host}
use Rattle.acl_reports.specs.Endings.{with_difference}
use Rattle.acl_reports.specs.Listed.{AreSaid, Item, Part, closing, ending_of, no_blocks, reported}
use Rattle.acl_reports.specs.Listed.{tally_with}
use Rattle.acl_reports.specs.declared.tally.Tally.{Tally}
use Rattle.acl_listing_lint.specs.Findings.{IsPartOf, LintAsking, seen_behind}
use Rattle.acl_listing_lint.specs.Seen.{Seen, nothing_seen}

-- blocks, each with what it results in behind those before it
abbrev pub AreItems : LintAsking → Seen → List Block → List Item → Type 0
AreItems asking seen [] items = items ≡ []
AreItems asking seen (block ∷ blocks) items = (part : Part) × (rest : List Item)
    × IsPartOf asking seen block part
    × AreItems asking (seen_behind asking seen block) blocks rest
    × (items ≡ record { block = block; part = part } ∷ rest)

-- the texts are what is reported and said of the first of them, and maybe at the end, of a listing
-- of which so much was counted and seen before
pub record AreBegun (asking : LintAsking) (seen : Seen) (tally : Tally)
    (blocks : List Block) (text more : List ℕ) : Type 0 where
  pub first : List Block
  pub rest : List Block
  pub are : blocks ≡ first ++ rest
  pub items : List Item
  pub items_are : AreItems asking seen first items
  pub text_is : text ≡ reported items
  pub said : List ℕ
  pub said_are : AreSaid asking.name (names_of_host asking.host) items said
  pub more_is : (more ≡ said)
      ⊎ ((rest ≡ []) × (more ≡ said ++ closing asking.name (tally_with tally items)))

-- the answer about these blocks; it differs where something is found, if that is asked
pub record IsAnswer (asking : LintAsking) (asks : Bool) (blocks : List Block) (answer : Answer)
    : Type 0 where
  pub items : List Item
  pub items_are : AreItems asking nothing_seen blocks items
  pub text : answer.text ≡ reported items
  pub said : List ℕ
  pub said_are : AreSaid asking.name (names_of_host asking.host) items said
  pub beside : answer.beside ≡ said ++ closing asking.name (tally_with no_blocks items)
  pub ending : answer.ending ≡ with_difference (asks && not (is_empty answer.text))
      (ending_of (tally_with no_blocks items))

-- of a listing with these bytes, if they are known: of a block that is too long its first bytes
abbrev pub AnswersLints : LintAsking → Bool → Option (List ℕ) → Answer → Type 0
AnswersLints asking asks bytes answer = IfSome (blocks_to_come 1 bytes) (λ blocks.
    IsAnswer asking asks blocks answer)

-- and as far as it is begun
abbrev pub BeginsLints : LintAsking → Bool → Option (List ℕ) → Answer → Type 0
BeginsLints asking asks bytes answer = IfSome (blocks_to_come 1 bytes) (λ blocks.
    AreBegun asking nothing_seen no_blocks blocks answer.text answer.beside)

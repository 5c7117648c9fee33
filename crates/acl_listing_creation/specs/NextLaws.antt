-- What `next` prints for a listing as a whole.
use Rattle.std.specs.Prelude.{◌≡◌, ◌<◌, ◌≤◌, ◌==◌, ℕ, Bool, false, ◌||◌, List, [], ◌∷◌, ◌++◌}
use Rattle.std.specs.Prelude.{All, IfOk, Option, Some, None, Result, Ok, Err, filter_map, length}
use Rattle.std.specs.Prelude.{map, if◌then◌else◌}
use Rattle.acl_names.specs.Bytes.{newline}
use Rattle.acl_names.specs.declared.limits.TheConstants.{MAX_ID}
use Rattle.acl_nfs4.specs.NamedAces.{ReadNumbers}
use Rattle.acl_listings.specs.Block.{FileValue, file_by}
use Rattle.acl_listings.specs.Extent.{HasFullLines}
use Rattle.acl_listings.specs.Listing.{Block, blocks_of}
use Rattle.acl_listings.specs.Numbered.{ArePrintable, said_of}
use Rattle.acl_listings.specs.Way.{is_above}
use Rattle.acl_listings.specs.declared.fault.BlockFault.{BlockFault}
use Rattle.acl_reports.specs.Listed.{items_after, reported}
use Rattle.acl_listing_creation.specs.Created.{created_in}
use Rattle.acl_listing_creation.specs.Next.{NextAsking, Reading, as_it_stands, is_known_folder}
use Rattle.acl_listing_creation.specs.Next.{next_part, reading_of}
use Rattle.acl_listing_creation.specs.declared.creation.Creation.{Creation}

-- a block that can be evaluated, and its file
pub record Answered : Type 0 where
  pub text : List ℕ
  pub reading : Reading

abbrev pub if_answered : List ℕ → Result Reading BlockFault → Option Answered
if_answered text (Ok reading) = Some (record { text = text; reading = reading })
if_answered text (Err fault) = None

-- the blocks that can be evaluated, in their order
abbrev pub answered : NextAsking → List Block → List Answered
answered asking blocks =
    filter_map (λ block. if_answered block.text (reading_of asking block.text)) blocks

-- the first of them is below the path
abbrev pub begins_below : List ℕ → List Answered → Bool
begins_below path [] = false
begins_below path (first ∷ more) = is_above path first.reading.file.path

-- A block is a folder's if it shows that itself, or if the next that can be evaluated is below it.
abbrev pub is_folder : NextAsking → Reading → List Answered → Bool
is_folder asking reading behind =
    is_known_folder asking reading || begins_below reading.file.path behind

-- each block unchanged, and after a folder's that of what would be created in it
abbrev pub with_next : NextAsking → List Answered → List ℕ
with_next asking [] = []
with_next asking (block ∷ behind) = as_it_stands block.text
    ++ ((if is_folder asking block.reading behind then block.reading.next else [])
    ++ with_next asking behind)

-- this is printed for the blocks of a listing
abbrev pub ReportsEachFolder : NextAsking → List Block → Type 0
ReportsEachFolder asking blocks =
    reported (items_after (next_part asking) [] blocks) ≡ with_next asking (answered asking blocks)

-- a file whose text is read again: the path is one line and not empty, ids are ids, and its lists'
-- text is read again
pub record IsPrintable (file : FileValue) : Type 0 where
  pub path : 0 < length file.path
  pub one_line : All (λ byte. (byte == newline) ≡ false) file.path
  pub owner : file.owner ≤ MAX_ID
  pub group : file.group ≤ MAX_ID
  pub lists : ArePrintable file.lists
  pub some : said_of file ≡ Ok file

-- what is created in folders is such a file
abbrev pub CreatesPrintable : Creation → List Answered → Type 0
CreatesPrintable creation blocks =
    All (λ block. IfOk (created_in creation block.reading.file) IsPrintable) blocks

-- the files that are printed: those of the listing, and after each folder what is created in it
abbrev pub files_reported : NextAsking → List Answered → List (Result FileValue BlockFault)
files_reported asking [] = []
files_reported asking (block ∷ behind) = Ok block.reading.file
    ∷ ((if is_folder asking block.reading behind
    then created_in asking.creation block.reading.file ∷ [] else [])
    ++ files_reported asking behind)

-- What is printed for blocks without empty lines is read as these files.
abbrev pub SaysEachFolder : NextAsking → List Block → Type 0
SaysEachFolder asking blocks = ReadNumbers asking.names
    → All (λ block. HasFullLines block.text) blocks
    → CreatesPrintable asking.creation (answered asking blocks)
    → map (λ block. file_by asking.names block.text)
    (blocks_of (with_next asking (answered asking blocks)))
    ≡ files_reported asking (answered asking blocks)

-- What is found in the block of a file.
use Rattle.std.specs.Prelude.{◌≡◌, ◌+◌, ℕ, Bool, true, false, List, [], ◌∷◌, ◌++◌, Option, Some}
use Rattle.std.specs.Prelude.{None, Result, Ok, Err, codes, length, slice_get, if◌then◌else◌}
use Rattle.acl_names.specs.Pieces.{pieces}
use Rattle.acl_posix.specs.Entry.{EntryValue}
use Rattle.acl_posix.specs.EntryText.{entry_by}
use Rattle.acl_posix.specs.declared.reading.PieceFault.{PieceFault}
use Rattle.acl_nfs4.specs.Ace.{Nfsace4}
use Rattle.acl_nfs4.specs.declared.owners.Owners.{Owners}
use Rattle.acl_listings.specs.Block.{FileValue, file_by}
use Rattle.acl_listings.specs.FaultyLine.{list_lines}
use Rattle.acl_listings.specs.Header.{after_prefix}
use Rattle.acl_listings.specs.Listing.{Block}
use Rattle.acl_listings.specs.declared.fault.BlockFault.{BlockFault}
use Rattle.acl_listings.specs.declared.lists.Lists.{Lists}
use Rattle.acl_listings.specs.declared.lists.Lists.TheVariants.{Posix, Nfs4}
use Rattle.acl_people.specs.Host.{Host, names_of_host}
use Rattle.acl_reports.specs.Listed.{Part}
use Rattle.acl_listing_lint.specs.AceEffects.{IsAceEffectSaid}
use Rattle.acl_listing_lint.specs.Effects.{IsEffectSaid}
use Rattle.acl_listing_lint.specs.Found.{Spot}
use Rattle.acl_listing_lint.specs.Masked.{masked_text}
use Rattle.acl_listing_lint.specs.FromDefault.{created_in, differs_text_if, lacking_text}
use Rattle.acl_listing_lint.specs.Pending.{reported_at, reported_before}
use Rattle.acl_listing_lint.specs.Seen.{Seen, default_at, seen_after}
use Rattle.acl_listing_lint.specs.NoAccount.{lacks_tag, lacks_who, no_account_text, owners_text}

-- the name of the listing, and who there is
pub record LintAsking : Type 0 where
  pub name : List ℕ
  pub host : Host

-- a text is what is found of things, one after the other
abbrev pub AreFound : {A : Type 0} → (A → List ℕ → Type 0) → List A → List ℕ → Type 0
AreFound Is [] text = text ≡ []
AreFound Is (one ∷ more) text = (first : List ℕ) × (rest : List ℕ)
    × Is one first × AreFound Is more rest × (text ≡ first ++ rest)

-- of texts that are numbered, the first with this number
abbrev pub AreFoundFrom : (ℕ → List ℕ → List ℕ → Type 0) → ℕ → List (List ℕ) → List ℕ → Type 0
AreFoundFrom Is number [] text = text ≡ []
AreFoundFrom Is number (one ∷ more) text = (first : List ℕ) × (rest : List ℕ)
    × Is number one first × AreFoundFrom Is (number + 1) more rest × (text ≡ first ++ rest)

-- ---- a POSIX list

-- the access list of a file of these owners, or its default list, who there is, and the list that
-- the file would have got by its folder's default list, if that is known
pub record PosixList : Type 0 where
  pub entries : List EntryValue
  pub owners : Owners
  pub host : Host
  pub created : Option (List EntryValue)
  pub is_default : Bool

-- what stands before its entries
abbrev pub default_word : List ℕ
default_word = codes "default:"

abbrev pub word_of : PosixList → List ℕ
word_of list = if list.is_default then default_word else []

-- whether an entry has an effect is said of access lists alone
abbrev pub IsEffectSaidIn : Bool → PosixList → Spot → EntryValue → List ℕ → Type 0
IsEffectSaidIn true list spot entry text = text ≡ []
IsEffectSaidIn false list spot entry text =
    IsEffectSaid list.owners list.entries spot entry text

-- and whether whom it names is granted otherwise than at the file's creation
abbrev pub differs_text_in : Bool → PosixList → Spot → EntryValue → List ℕ
differs_text_in true list spot entry = []
differs_text_in false list spot entry = differs_text_if list.created list.entries spot entry

-- it is found of an entry of the list: that it has none, what the mask takes of it, that nobody has
-- the id that it names, and that this is granted otherwise
abbrev pub IsFoundOfEntry : PosixList → Spot → EntryValue → List ℕ → Type 0
IsFoundOfEntry list spot entry text = (first : List ℕ)
    × IsEffectSaidIn list.is_default list spot entry first
    × (text ≡ first ++ masked_text spot list.entries entry
    ++ no_account_text (lacks_tag list.host entry.tag) spot
    ++ differs_text_in list.is_default list spot entry)

-- and of a piece, if that is one
abbrev pub IsFoundOfRead : PosixList → Spot → Result EntryValue PieceFault → List ℕ → Type 0
IsFoundOfRead list spot (Ok entry) text = IsFoundOfEntry list spot entry text
IsFoundOfRead list spot (Err fault) text = text ≡ []

abbrev pub IsFoundOfPiece : LintAsking → PosixList → ℕ → List ℕ → List ℕ → Type 0
IsFoundOfPiece asking list line piece text = IsFoundOfRead list
    (record { name = asking.name; line = line; before = word_of list; piece = piece })
    (entry_by (names_of_host asking.host) piece) text

-- of the pieces of a text that stands in a line
abbrev pub AreFoundInText : LintAsking → PosixList → ℕ → List ℕ → List ℕ → Type 0
AreFoundInText asking list line said text =
    AreFound (IsFoundOfPiece asking list line) (pieces said) text

-- the lists of a file, and the one that it would have got
pub record PosixLists : Type 0 where
  pub owners : Owners
  pub access : List EntryValue
  pub default : Option (List EntryValue)
  pub created : Option (List EntryValue)

abbrev pub list_in : LintAsking → PosixLists → Bool → List EntryValue → PosixList
list_in asking lists is_default entries = record {
  entries = entries;
  owners = lists.owners;
  host = asking.host;
  created = lists.created;
  is_default = is_default;
}

-- of the default list, if there is one
abbrev pub AreFoundInDefault : LintAsking → PosixLists → Option (List EntryValue) → ℕ → List ℕ
    → List ℕ → Type 0
AreFoundInDefault asking lists (Some default) line said text =
    AreFoundInText asking (list_in asking lists true default) line said text
AreFoundInDefault asking lists None line said text = text ≡ []

-- of what stands in a line behind the word of a default list, or else of the line
abbrev pub IsFoundBehind : LintAsking → PosixLists → ℕ → List ℕ → Option (List ℕ) → List ℕ → Type 0
IsFoundBehind asking lists line said (Some behind) text =
    AreFoundInDefault asking lists lists.default line behind text
IsFoundBehind asking lists line said None text =
    AreFoundInText asking (list_in asking lists false lists.access) line said text

abbrev pub IsFoundInLine : LintAsking → PosixLists → ℕ → List ℕ → List ℕ → Type 0
IsFoundInLine asking lists line said text =
    IsFoundBehind asking lists line said (after_prefix default_word said) text

-- ---- an NFSv4 list

pub record AceList : Type 0 where
  pub owners : Owners
  pub aces : List Nfsace4
  pub host : Host

-- of the entry at a place of the list, if there is one: that it has no effect, and that nobody has
-- the id that it names
abbrev pub IsFoundOfAce : AceList → Spot → ℕ → Option Nfsace4 → List ℕ → Type 0
IsFoundOfAce list spot place (Some ace) text = (first : List ℕ)
    × IsAceEffectSaid list.owners list.aces place spot ace first
    × (text ≡ first ++ no_account_text (lacks_who list.host ace.who) spot)
IsFoundOfAce list spot place None text = text ≡ []

-- of a piece in a line, before which so many stand
abbrev pub IsFoundOfAcePiece : List ℕ → AceList → ℕ → ℕ → List ℕ → List ℕ → Type 0
IsFoundOfAcePiece name list line place piece text = IsFoundOfAce list
    (record { name = name; line = line; before = []; piece = piece }) place
    (slice_get list.aces place) text

-- of lines of a listing of this name, of which the first has this number, and before whose entries
-- so many stand
abbrev pub AreFoundInAceLines : List ℕ → AceList → ℕ → ℕ → List (List ℕ) → List ℕ → Type 0
AreFoundInAceLines name list line place [] text = text ≡ []
AreFoundInAceLines name list line place (said ∷ more) text = (first : List ℕ) × (rest : List ℕ)
    × AreFoundFrom (IsFoundOfAcePiece name list line) place (pieces said) first
    × AreFoundInAceLines name list (line + 1) (place + length (pieces said)) more rest
    × (text ≡ first ++ rest)

-- ---- a block

-- of the lines behind a header, of which the first has this number, of a file that would have got
-- this list
abbrev pub IsFoundInLists : LintAsking → Owners → Option (List EntryValue) → Lists → ℕ
    → List (List ℕ) → List ℕ → Type 0
IsFoundInLists asking owners created (Posix access default) line lines text = AreFoundFrom
    (IsFoundInLine asking
    (record { owners = owners; access = access; default = default; created = created }))
    line lines text
IsFoundInLists asking owners created (Nfs4 acl) line lines text = AreFoundInAceLines asking.name
    (record { owners = owners; aces = acl; host = asking.host }) line 0 lines text

abbrev pub owners_of : FileValue → Owners
owners_of file = record { owner = file.owner; group = file.group }

-- of a block, which says the file: whom the list that it would have got names and its own doesn't,
-- that nobody has an id of its header, and what its lists show
abbrev pub IsFoundInBlock : LintAsking → Option (List EntryValue) → Block → FileValue → List ℕ
    → Type 0
IsFoundInBlock asking created block file text = (rest : List ℕ)
    × IsFoundInLists asking (owners_of file) created file.lists (block.line + 3)
    (list_lines block.text) rest
    × (text ≡ lacking_text asking.name block.line created file.lists
    ++ owners_text asking.host asking.name block.line (owners_of file) ++ rest)

-- the list that it would have got in its folder, if that is one of those that were seen
abbrev pub created_of : Seen → FileValue → Option (List EntryValue)
created_of seen file = created_in (default_at seen.folders file.path) file.lists

-- between the lines of a file that is pending, if this one shows that it is a folder, and of this
-- one, if it is one in which anybody may delete
abbrev pub IsFoundBetween : LintAsking → Seen → Block → FileValue → List ℕ → Type 0
IsFoundBetween asking seen block file text = (found : List ℕ)
    × IsFoundInBlock asking (created_of seen file) block file found
    × (text ≡ reported_before asking.name seen.pending file.path ++ found
    ++ reported_at asking.name block.line file)

-- what a block results in behind what was seen: what is found, or why it says no file
abbrev pub IsPartBy : LintAsking → Seen → Block → Result FileValue BlockFault → Part → Type 0
IsPartBy asking seen block (Ok file) part =
    (text : List ℕ) × IsFoundBetween asking seen block file text × (part ≡ Ok text)
IsPartBy asking seen block (Err fault) part = part ≡ Err fault

abbrev pub IsPartOf : LintAsking → Seen → Block → Part → Type 0
IsPartOf asking seen block part =
    IsPartBy asking seen block (file_by (names_of_host asking.host) block.text) part

-- what is seen behind it
abbrev pub seen_behind : LintAsking → Seen → Block → Seen
seen_behind asking seen block =
    seen_after seen block.line (file_by (names_of_host asking.host) block.text)

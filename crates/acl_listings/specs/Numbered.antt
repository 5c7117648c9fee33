-- Printing files with decimal ids, as `getfacl -Rnp` and `nfs4_getfacl` print them.
use Rattle.std.specs.Prelude.{◌≡◌, ℕ, ◌+◌, ◌<◌, ◌≤◌, ◌==◌, false, List, [], ◌∷◌, ◌++◌, length}
use Rattle.std.specs.Prelude.{codes, decimal, map, Option, Some, None, Result, Ok, Err}
use Rattle.std.specs.List.{All, flat_map, join_with_byte}
use Rattle.acl_names.specs.Bytes.{colon, newline}
use Rattle.acl_names.specs.Names.{Names}
use Rattle.acl_names.specs.declared.limits.TheConstants.{MAX_ID}
use Rattle.acl_posix.specs.Canonical.{IsAcl}
use Rattle.acl_posix.specs.Entry.{EntryValue}
use Rattle.acl_posix.specs.PermsText.{perms_text}
use Rattle.acl_posix.specs.PrintedText.{HaveIds, number_text, word_text}
use Rattle.acl_nfs4.specs.Acl.{AreAces}
use Rattle.acl_nfs4.specs.NamedAces.{ReadNumbers}
use Rattle.acl_nfs4.specs.PrintedText as nfs4
use Rattle.acl_nfs4.specs.PrintedText.{short_ace}
use Rattle.acl_listings.specs.Block.{FileValue, file_by}
use Rattle.acl_listings.specs.FileFlags.{no_flags}
use Rattle.acl_listings.specs.Listing.{blocks_of}
use Rattle.acl_listings.specs.Nfs4Block.{aces_lines}
use Rattle.acl_listings.specs.Printed.{line_text}
use Rattle.acl_listings.specs.declared.fault.BlockFault.{BlockFault}
use Rattle.acl_listings.specs.declared.fault.BlockFault.TheVariants.{InvalidAcl}
use Rattle.acl_listings.specs.declared.limits.TheConstants.{MAX_BLOCK}
use Rattle.acl_listings.specs.declared.lists.Lists.{Lists}
use Rattle.acl_listings.specs.declared.lists.Lists.TheVariants.{Posix, Nfs4}
use Rattle.acl_listings.specs.declared.rule.Rule.TheVariants.{NoOwner}

-- `tag:number:perms`
abbrev pub entry_text : EntryValue → List ℕ
entry_text entry = join_with_byte colon
    (word_text entry.tag ∷ number_text entry.tag ∷ perms_text entry.perms ∷ [])

-- one entry per line, each after this word
abbrev pub entries_text : List ℕ → List EntryValue → List ℕ
entries_text word = flat_map (λ entry. line_text word (entry_text entry))

-- those of a default list, each after its word
abbrev pub default_text : Option (List EntryValue) → List ℕ
default_text None = []
default_text (Some default) = entries_text (codes "default:") default

-- the lines of a file's lists
abbrev pub lists_text : Lists → List ℕ
lists_text (Posix access default) = entries_text [] access ++ default_text default
lists_text (Nfs4 aces) = aces_lines short_ace aces

-- the lines of the file, its owner and its group
abbrev pub header_text : List ℕ → ℕ → ℕ → List ℕ
header_text path owner group = line_text (codes "# file: ") path
    ++ (line_text (codes "# owner: ") (decimal owner)
    ++ line_text (codes "# group: ") (decimal group))

-- these, those of its lists, and an empty line
abbrev pub file_text : FileValue → List ℕ
file_text file = header_text file.path file.owner file.group
    ++ (lists_text file.lists ++ newline ∷ [])

abbrev pub files_text : List FileValue → List ℕ
files_text = flat_map file_text

-- a list whose text is read again
abbrev pub IsPrintableDefault : Option (List EntryValue) → Type 0
IsPrintableDefault None = Unit {0}
IsPrintableDefault (Some default) = IsAcl default × HaveIds default

abbrev pub ArePrintable : Lists → Type 0
ArePrintable (Posix access default) = IsAcl access × HaveIds access × IsPrintableDefault default
ArePrintable (Nfs4 aces) = AreAces aces × nfs4.HaveIds aces

-- the path is one line and not empty, ids are ids, no flag is set, the lists are printable, and the
-- block, which ends with two newlines, is no longer than one may be
pub record IsPrintable (file : FileValue) : Type 0 where
  pub path : 0 < length file.path
  pub one_line : All (λ byte. (byte == newline) ≡ false) file.path
  pub owner : file.owner ≤ MAX_ID
  pub group : file.group ≤ MAX_ID
  pub flags : file.flags ≡ no_flags
  pub lists : ArePrintable file.lists
  pub short : length (file_text file) ≤ MAX_BLOCK + 2

-- what is read from a printed file: the file; but an NFSv4 list without entries has no lines, and
-- its block is refused for having no list
abbrev pub said_with : FileValue → Lists → Result FileValue BlockFault
said_with file (Nfs4 []) = Err (InvalidAcl NoOwner)
said_with file lists = Ok file

abbrev pub said_of : FileValue → Result FileValue BlockFault
said_of file = said_with file file.lists

-- the blocks of a text are read as these files, in this order, by whatever names
abbrev pub SaysFiles : List FileValue → List ℕ → Type 0
SaysFiles files text = (names : Names) → ReadNumbers names
    → map (λ block. file_by names block.text) (blocks_of text) ≡ map said_of files

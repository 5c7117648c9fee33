-- How `getfacl` prints files.
use Rattle.std.specs.Prelude.{◌≡◌, ℕ, ◌+◌, ◌<◌, ◌≤◌, ◌==◌, false, List, [], ◌∷◌, ◌++◌, length}
use Rattle.std.specs.Prelude.{codes, Some, None}
use Rattle.std.specs.List.{All, flat_map}
use Rattle.acl_names.specs.Bytes.{newline}
use Rattle.acl_names.specs.Directory.{Known, group_name, user_name}
use Rattle.acl_names.specs.Ids.{id_text}
use Rattle.acl_names.specs.declared.limits.TheConstants.{MAX_ID}
use Rattle.acl_posix.specs.Canonical.{IsAcl}
use Rattle.acl_posix.specs.Entry.{perms_of}
use Rattle.acl_posix.specs.PrintedText.{HaveIds, default_text, effective_text}
use Rattle.acl_posix.specs.declared.entry.Tag.TheVariants.{Mask}
use Rattle.acl_nfs4.specs.PrintedText.{short_ace}
use Rattle.acl_listings.specs.Block.{FileValue}
use Rattle.acl_listings.specs.FileFlags.{no_flags}
use Rattle.acl_listings.specs.declared.limits.TheConstants.{MAX_BLOCK}
use Rattle.acl_listings.specs.declared.lists.Lists.{Lists}
use Rattle.acl_listings.specs.declared.lists.Lists.TheVariants.{Posix, Nfs4}

-- a word, a text, and a newline
abbrev pub line_text : List ℕ → List ℕ → List ℕ
line_text word text = word ++ (text ++ newline ∷ [])

-- the lines of a file's lists: POSIX entries with their marks, NFSv4 entries with ids in decimal
abbrev pub lists_text : Known → Lists → List ℕ
lists_text known (Posix access None) = effective_text known (perms_of Mask access) access
lists_text known (Posix access (Some default)) =
    effective_text known (perms_of Mask access) access
    ++ default_text known (perms_of Mask default) default
lists_text known (Nfs4 acl) = flat_map (λ ace. short_ace ace ++ newline ∷ []) acl

-- the lines of the file, its owner and its group, those of its lists, and an empty line
abbrev pub block_text : Known → FileValue → List ℕ
block_text known file = line_text (codes "# file: ") file.path
    ++ (line_text (codes "# owner: ") (id_text (user_name known) file.owner)
    ++ (line_text (codes "# group: ") (id_text (group_name known) file.group)
    ++ (lists_text known file.lists ++ newline ∷ [])))

-- a block for each
abbrev pub listing_text : Known → List FileValue → List ℕ
listing_text known = flat_map (block_text known)

-- lists whose text is read again: an access list without a default list
abbrev pub ArePrintable : Lists → Type 0
ArePrintable (Posix access None) = IsAcl access × HaveIds access
ArePrintable (Posix access (Some default)) = ⊥
ArePrintable (Nfs4 acl) = ⊥

-- the path is one line and not empty, ids are ids, no flag is set, the lists are printable, and the
-- block, which ends with two newlines, is no longer than one may be
pub record IsPrintable (known : Known) (file : FileValue) : Type 0 where
  pub path : 0 < length file.path
  pub one_line : All (λ byte. (byte == newline) ≡ false) file.path
  pub owner : file.owner ≤ MAX_ID
  pub group : file.group ≤ MAX_ID
  pub flags : file.flags ≡ no_flags
  pub lists : ArePrintable file.lists
  pub short : length (block_text known file) ≤ MAX_BLOCK + 2

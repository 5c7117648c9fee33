-- Why somebody may delete a file, rename it or put another in its place, or may not: what decides,
-- in the order in which it does.
use Rattle.std.specs.Prelude.{ℕ, ◌^◌, ◌&&◌, ◌||◌, Bool, List, [], ◌∷◌, ◌++◌, Option, Some, None}
use Rattle.std.specs.Prelude.{codes, decimal, if◌then◌else◌, is_none}
use Rattle.acl_access.specs.Deletes.{adds, delete, delete_child, owns, said_of}
use Rattle.acl_access.specs.Paths.{printed_path}
use Rattle.acl_names.specs.Bytes.{newline}
use Rattle.acl_names.specs.Requester.{Identity}
use Rattle.acl_nfs4.specs.Mask.{write_data}
use Rattle.acl_nfs4.specs.Who.{matches}
use Rattle.acl_queries.specs.AclText.{nobody}
use Rattle.acl_queries.specs.DecideAnswer.{answer_line}
use Rattle.acl_queries.specs.Reasons.{bit_line}
use Rattle.acl_bridge.specs.Files.{File}
use Rattle.acl_bridge.specs.declared.any_acl.AnyAcl.{AnyAcl}
use Rattle.acl_bridge.specs.declared.any_acl.AnyAcl.TheVariants.{Posix, Nfs4}
use Rattle.acl_listing_queries.specs.WhyReasons.{decision_text, named_line}

-- a file, and the path where it is
pub record FileAt : Type 0 where
  pub path : List ℕ
  pub file : File

-- ---- what lists say

-- `granted` or `denied`, or `-` where nothing is said
abbrev pub said_line : Option Bool → List ℕ
said_line (Some granted) = answer_line granted
said_line None = codes "-" ++ newline ∷ []

-- of an NFSv4 list what it says of a bit, and the entry that speaks first of it: `LETTER K ACE`
abbrev pub said_text : List ℕ → Option Bool → ℕ → FileAt → Identity → List ℕ
said_text word said bit at who = by at.file.list
  where
    by : AnyAcl → List ℕ
    by (Posix acl) = []
    by (Nfs4 aces) = named_line word at.path (said_line said)
        ++ bit_line nobody (matches at.file.owners.owner at.file.owners.group who) aces (2 ^ bit)

-- whether names may be added to the folder or taken from it: `w` and `x`, or ADD_FILE
abbrev pub adding_text : FileAt → Identity → List ℕ
adding_text folder who = by folder.file.list
  where
    by : AnyAcl → List ℕ
    by (Posix acl) = decision_text (codes "add") folder.path folder.file who 3
    by (Nfs4 aces) =
        said_text (codes "add") (Some (adds folder.file who)) write_data folder who

-- ---- who owns what

-- `owner UID PATH`
abbrev pub owner_line : FileAt → List ℕ
owner_line at = codes "owner " ++ decimal at.file.owners.owner ++ codes " "
    ++ printed_path at.path ++ newline ∷ []

-- of a folder with the sticky bit: granted to who owns it or the file, and these are the owners
abbrev pub sticky_lines : Bool → Bool → FileAt → FileAt → List ℕ
sticky_lines sticky is_owner folder file =
    if sticky
    then named_line (codes "sticky") folder.path (answer_line is_owner)
    ++ owner_line folder ++ owner_line file
    else []

-- ---- what decides

-- whether neither list says anything: of DELETE the file's, of DELETE_CHILD the folder's
abbrev pub is_open : File → File → Identity → Bool
is_open folder file who =
    is_none (said_of file who delete) && is_none (said_of folder who delete_child)

-- DELETE of the file and DELETE_CHILD of the folder; and where neither is spoken of, whether names
-- may be added to the folder, and the sticky bit
abbrev pub deletion_reasons : Bool → FileAt → FileAt → Identity → List ℕ
deletion_reasons sticky folder file who =
    said_text (codes "delete") (said_of file.file who delete) delete file who
    ++ said_text (codes "delete-child") (said_of folder.file who delete_child) delete_child folder
    who
    ++ (if is_open folder.file file.file who
    then adding_text folder who
    ++ sticky_lines sticky (owns folder.file who || owns file.file who) folder file
    else [])

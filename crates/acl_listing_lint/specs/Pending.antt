-- Which blocks are those of folders in which anybody may delete.
use Rattle.std.specs.Prelude.{◌&&◌, ℕ, Bool, not, List, [], Option, Some, None, codes}
use Rattle.std.specs.Prelude.{if◌then◌else◌}
use Rattle.acl_access.specs.Paths.{printed_path}
use Rattle.acl_access.specs.declared.rules.Rules.TheVariants.{Linux}
use Rattle.acl_listings.specs.Folders.{says_folder}
use Rattle.acl_listings.specs.Block.{FileValue}
use Rattle.acl_listings.specs.Way.{is_above}
use Rattle.acl_reports.specs.Files.{deciding_list}
use Rattle.acl_listing_lint.specs.Deletions.{anyone_deletes}
use Rattle.acl_listing_lint.specs.Found.{found_line}

-- a file in which anybody may delete, if it is a folder, and the number of its block's first line
pub record Pending : Type 0 where
  pub path : List ℕ
  pub line : ℕ

abbrev pub pending_at : ℕ → FileValue → Pending
pending_at line file = record { path = file.path; line = line }

-- `anyone-deletes PATH`
abbrev pub deletes_line : List ℕ → Pending → List ℕ
deletes_line name pending =
    found_line name pending.line (codes "anyone-deletes") (printed_path pending.path)

abbrev pub is_open : FileValue → Bool
is_open file = anyone_deletes file.flags.sticky (deciding_list Linux file.lists)

-- its line, if it says itself that it is a folder
abbrev pub reported_at : List ℕ → ℕ → FileValue → List ℕ
reported_at name line file = if is_open file && says_folder file
    then deletes_line name (pending_at line file) else []

-- or else what stands behind it shows it: its line, before a block with a path that lies below
abbrev pub pending_then : ℕ → FileValue → Option Pending
pending_then line file =
    if is_open file && not (says_folder file) then Some (pending_at line file) else None

abbrev pub reported_before : List ℕ → Option Pending → List ℕ → List ℕ
reported_before name None path = []
reported_before name (Some pending) path =
    if is_above pending.path path then deletes_line name pending else []

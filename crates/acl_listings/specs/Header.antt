-- The lines at the front of a block: those of the file, its owner and its group.
use Rattle.std.specs.Prelude.{ℕ, List, [], ◌∷◌, length, drop, take, Option, Some, None, codes}
use Rattle.std.specs.Prelude.{if◌then◌else◌, bytes_eq}
use Rattle.std.specs.Option.{option_and_then, option_or}
use Rattle.acl_listings.specs.Lines.{after_line, first_line}

-- the fields of a block's first three lines, and its other lines as a text
pub record Header : Type 0 where
  pub path : List ℕ
  -- the owner and the group, as the block writes them
  pub owner : List ℕ
  pub group : List ℕ
  pub list : List ℕ

-- the text after a word, if the line begins with it
abbrev pub after_prefix : List ℕ → List ℕ → Option (List ℕ)
after_prefix word line = if bytes_eq (take (length word) line) word
    then Some (drop (length word) line) else None

abbrev pub one_byte_at_least : List ℕ → Option (List ℕ)
one_byte_at_least [] = None
one_byte_at_least (byte ∷ bytes) = Some (byte ∷ bytes)

-- the text after either word for a file
abbrev pub after_file_word : List ℕ → Option (List ℕ)
after_file_word line =
    option_or (after_prefix (codes "# file: ") line) (after_prefix (codes "# File: ") line)

-- `# file: NAME` or `# File: NAME`: the name, unchanged
abbrev pub path_in : List ℕ → Option (List ℕ)
path_in line = option_and_then one_byte_at_least (after_file_word line)

abbrev pub as_header : Option (List ℕ) → Option (List ℕ) → Option (List ℕ) → List ℕ
    → Option Header
as_header (Some path) (Some owner) (Some group) list =
    Some (record { path = path; owner = owner; group = group; list = list })
as_header _ _ _ list = None

-- the file's line, the owner's and the group's
abbrev pub header_of : List ℕ → Option Header
header_of text =
    let second = after_line text in
    let third = after_line second in
    as_header (path_in (first_line text)) (after_prefix (codes "# owner: ") (first_line second))
    (after_prefix (codes "# group: ") (first_line third)) (after_line third)

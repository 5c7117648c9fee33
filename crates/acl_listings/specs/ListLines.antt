-- Which lines of a block belong to which of its lists.
use Rattle.std.specs.Prelude.{ℕ, Bool, List, [], ◌∷◌, ◌++◌, drop, take, Option, Some, None, codes}
use Rattle.std.specs.Prelude.{bytes_eq, if◌then◌else◌}
use Rattle.std.specs.List.{filter_map, flat_map}
use Rattle.acl_names.specs.Bytes.{newline}
use Rattle.acl_names.specs.Pieces.{content, parts, pieces_of_content}
use Rattle.acl_listings.specs.declared.list_lines.ListKind.{ListKind}
use Rattle.acl_listings.specs.declared.list_lines.ListKind.TheVariants.{Access, Default, Nfs4}
use Rattle.acl_listings.specs.declared.list_lines.ListKind.TheVariants.{Freebsd}

-- a line of a default list
abbrev pub is_default : List ℕ → Bool
is_default line = bytes_eq (codes "default:") (take 8 line)

-- the part of a line that belongs to a list: of a default list's line the text after `default:`,
-- and of an access list's the whole line
abbrev pub line_of : ListKind → List ℕ → Option (List ℕ)
line_of Access line = if is_default line then None else Some line
line_of Default line = if is_default line then Some (drop 8 line) else None
line_of Nfs4 line = Some line
line_of Freebsd line = Some line

-- the pieces of a list in these lines
abbrev pub pieces_in : ListKind → List (List ℕ) → List (List ℕ)
pieces_in kind lines = flat_map (λ line. pieces_of_content (content line))
    (filter_map (line_of kind) lines)

-- the pieces of a list in a block's lines after its header
abbrev pub pieces_of : ListKind → List ℕ → List (List ℕ)
pieces_of kind list = pieces_in kind (parts newline list)

-- the part of a line that belongs to a list, with a newline after it
abbrev pub ended_line : Option (List ℕ) → List ℕ
ended_line None = []
ended_line (Some text) = text ++ newline ∷ []

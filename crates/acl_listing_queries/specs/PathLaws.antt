-- Paths that a listing has, and PATH of `why`.
use Rattle.std.specs.Prelude.{◌≡◌, ℕ, ◌==◌, List, [], ◌∷◌, if◌then◌else◌}
use Rattle.std.specs.List.{flat_map}
use Rattle.acl_names.specs.Bytes.{backslash}
use Rattle.acl_names.specs.Shown.{octal}
use Rattle.acl_access.specs.Paths.{printed_path}
use Rattle.acl_listing_queries.specs.PathWord.{as_listed, is_escaped}

-- a byte of a file's path, as getfacl writes it: a backslash twice, a byte that ends a line by its
-- digits, and any other as it is
abbrev pub listed_byte : ℕ → List ℕ
listed_byte byte = if byte == backslash then backslash ∷ backslash ∷ []
    else if is_escaped byte then octal byte else byte ∷ []

-- the path of a file, as a listing has it
abbrev pub listed_path : List ℕ → List ℕ
listed_path path = flat_map listed_byte path

-- PATH may be the path that the listing has.
abbrev pub ListedPathsAreRead : Type 0
ListedPathsAreRead = (path : List ℕ) → as_listed (listed_path path) ≡ listed_path path

-- PATH may be what answers print for it.
abbrev pub PrintedPathsAreRead : Type 0
PrintedPathsAreRead =
    (path : List ℕ) → as_listed (printed_path (listed_path path)) ≡ listed_path path

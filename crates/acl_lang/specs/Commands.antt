-- The commands, each with its fields from left to right: the first that is malformed is the fault.
-- Other words are no command.
use Rattle.std.specs.Prelude.{ℕ, List, [], ◌∷◌, Ok, Err, codes, if◌then◌else◌, bytes_eq}
use Rattle.acl_names.specs.Directory.{Known}
use Rattle.acl_names.specs.Pieces.{first_word, after_word}
use Rattle.acl_names.specs.Steps.{◌>>=◌}
use Rattle.acl_tree.specs.declared.faults.LineFault.TheVariants.{Syntax}
use Rattle.acl_tree.specs.declared.request.Request.{Request}
use Rattle.acl_tree.specs.declared.request.Request.TheVariants.{Get, SetAccess, SetDefault, SetNfs4}
use Rattle.acl_tree.specs.declared.request.Request.TheVariants.{Chmod, Create, Check, Check4}
use Rattle.acl_tree.specs.declared.request.Request.TheVariants.{Translate}
use Rattle.acl_lang.specs.Fields.{acl_of, aces_of, default_of, kind_of, mask_of, mode_of, path_of}
use Rattle.acl_lang.specs.Fields.{perms_of, user_of}
use Rattle.acl_lang.specs.Refusals.{Asked}
use Rattle.acl_lang.specs.Words.{words}

-- `get P`
unfoldable pub get : List (List ℕ) → Asked Request
get (path ∷ []) = do
  path ← path_of path
  Ok (Get path)
get _ = Err Syntax

-- `translate P`
unfoldable pub translate : List (List ℕ) → Asked Request
translate (path ∷ []) = do
  path ← path_of path
  Ok (Translate path)
translate _ = Err Syntax

-- `chmod P OOO`
unfoldable pub chmod : List (List ℕ) → Asked Request
chmod (path ∷ mode ∷ []) = do
  path ← path_of path
  mode ← mode_of mode
  Ok (Chmod path mode)
chmod _ = Err Syntax

-- `create file P USER OOO`, `create dir P USER OOO`
unfoldable pub create : Known → List (List ℕ) → Asked Request
create known (kind ∷ path ∷ user ∷ mode ∷ []) = do
  kind ← kind_of kind
  path ← path_of path
  user ← user_of known user
  mode ← mode_of mode
  Ok (Create kind path user mode)
create known _ = Err Syntax

-- `check P USER PERMS`
unfoldable pub check : Known → List (List ℕ) → Asked Request
check known (path ∷ user ∷ perms ∷ []) = do
  path ← path_of path
  user ← user_of known user
  perms ← perms_of perms
  Ok (Check path user perms)
check known _ = Err Syntax

-- `check4 P USER LETTERS`
unfoldable pub check4 : Known → List (List ℕ) → Asked Request
check4 known (path ∷ user ∷ mask ∷ []) = do
  path ← path_of path
  user ← user_of known user
  mask ← mask_of mask
  Ok (Check4 path user mask)
check4 known _ = Err Syntax

-- `P access TEXT`, `P default TEXT`, `P nfs4 TEXT`

unfoldable pub set_access : Known → List ℕ → List ℕ → Asked Request
set_access known path text = do
  path ← path_of path
  acl ← acl_of known text
  Ok (SetAccess path acl)

unfoldable pub set_default : Known → List ℕ → List ℕ → Asked Request
set_default known path text = do
  path ← path_of path
  default ← default_of known text
  Ok (SetDefault path default)

unfoldable pub set_nfs4 : Known → List ℕ → List ℕ → Asked Request
set_nfs4 known path text = do
  path ← path_of path
  acl ← aces_of known text
  Ok (SetNfs4 path acl)

-- of the word for the kind of list, and TEXT, which is not empty
abbrev pub set_list : Known → List ℕ → List ℕ → List ℕ → Asked Request
set_list known path kind [] = Err Syntax
set_list known path kind (byte ∷ bytes) =
    if bytes_eq kind (codes "access") then set_access known path (byte ∷ bytes)
    else (if bytes_eq kind (codes "default") then set_default known path (byte ∷ bytes)
    else (if bytes_eq kind (codes "nfs4") then set_nfs4 known path (byte ∷ bytes) else Err Syntax))

-- `set P KIND TEXT`, where TEXT is what stands after the word KIND and its blanks
abbrev pub set : Known → List ℕ → Asked Request
set known fields = set_list known (first_word fields) (first_word (after_word fields))
    (after_word (after_word fields))

-- by the command's word, and what stands after it and its blanks
unfoldable pub command : Known → List ℕ → List ℕ → Asked Request
command known word fields =
    if bytes_eq word (codes "get") then get (words fields)
    else (if bytes_eq word (codes "set") then set known fields
    else (if bytes_eq word (codes "chmod") then chmod (words fields)
    else (if bytes_eq word (codes "create") then create known (words fields)
    else (if bytes_eq word (codes "check") then check known (words fields)
    else (if bytes_eq word (codes "check4") then check4 known (words fields)
    else (if bytes_eq word (codes "translate") then translate (words fields) else Err Syntax))))))

-- what a line asks for that begins with no blank and ends with none
abbrev pub asked_by : Known → List ℕ → Asked Request
asked_by known line = command known (first_word line) (after_word line)

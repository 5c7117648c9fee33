-- The lines of a dump.
use Rattle.std.specs.Prelude.{◌≡◌, ◌<◌, ◌++◌, ℕ, List, [], ◌∷◌, All, Contains, codes, length}
use Rattle.acl_names.specs.Bytes.{newline}
use Rattle.acl_audit.specs.Dump.{make_commands}
use Rattle.acl_tree.specs.Requests.{NamesAPath}
use Rattle.acl_tree.specs.Tree.{NodesUnderUmask}
use Rattle.acl_tree.specs.declared.request.Request.{Request}
use Rattle.acl_lang.specs.CommandText.{HasShortLine, IsPrintable, command_text, session_text}
use Rattle.acl_lang.specs.declared.limits.TheConstants.{MAX_LINE_LEN}

-- what the line of a request says is the request again, if what that names is a path
abbrev pub SaysAgain : Request → Type 0
SaysAgain request = NamesAPath request → IsPrintable request

-- its line is no longer than lines may be, and says it again
abbrev pub IsDumped : Request → Type 0
IsDumped request = HasShortLine request × SaysAgain request

-- the line that closes the root, and the text of a dump: this line, and then one for each request
-- that makes the nodes
abbrev pub closing_line : List ℕ
closing_line = codes "set / access u::-,g::-,o::-"

abbrev pub dump_text : NodesUnderUmask → List ℕ
dump_text tree = (closing_line ++ newline ∷ []) ++ session_text (make_commands tree)

-- a text grew by the lines of these requests
pub record AddsLines (requests : List Request) (old new : List ℕ) : Type 0 where
  pub text : new ≡ old ++ session_text requests
  pub dumped : All IsDumped requests

-- one of these requests has a line that is longer than lines may be
abbrev pub HasLongLine : List Request → Type 0
HasLongLine requests = (request : Request) × Contains requests request
    × (MAX_LINE_LEN < length (command_text request))

-- What a list decides, and why, as `explain` reports it.
use Rattle.std.specs.Prelude.{ℕ, List, ◌++◌, codes}
use Rattle.acl_access.specs.Paths.{printed_path}
use Rattle.acl_names.specs.Requester.{Identity}
use Rattle.acl_queries.specs.AclText.{nobody}
use Rattle.acl_queries.specs.DecideAnswer.{answer_line}
use Rattle.acl_queries.specs.Reasons.{reasons}
use Rattle.acl_bridge.specs.Files.{File, may}

-- why its list decides as it does, as `explain` reports it
abbrev pub file_reasons : File → Identity → ℕ → List ℕ
file_reasons file who perms = reasons nobody (record {
  owner = file.owners.owner;
  group = file.owners.group;
  requester = who;
  request = perms;
}) file.list

-- `WORD PATH` and the rest of a line
abbrev pub named_line : List ℕ → List ℕ → List ℕ → List ℕ
named_line word path rest = word ++ codes " " ++ printed_path path ++ codes " " ++ rest

-- `WORD PATH granted` or `WORD PATH denied`, and why
abbrev pub decision_text : List ℕ → List ℕ → File → Identity → ℕ → List ℕ
decision_text word path file who perms =
    named_line word path (answer_line (may file who perms)) ++ file_reasons file who perms

-- What `explain` prints: the answer, and the entries that decide.
use Rattle.std.specs.Prelude.{◌≡◌, ◌↔◌, Bool, true, IsTrue, List, ℕ, ◌++◌}
use Rattle.clap.specs.Words.{Row}
use Rattle.acl_posix.specs.Access.{grants}
use Rattle.acl_nfs4.specs.Evaluation.{Grants}
use Rattle.acl_nfs4.specs.Mask.{mask_of}
use Rattle.acl_nfs4.specs.Who.{matches}
use Rattle.acl_cli.specs.Commands.{Meaning}
use Rattle.acl_queries.specs.AclText.{nobody}
use Rattle.acl_queries.specs.DecideAnswer.{answer_line}
use Rattle.acl_queries.specs.Explained.{Explained, explained_in}
use Rattle.acl_queries.specs.Queries.{query_meaning}
use Rattle.acl_queries.specs.Reasons.{FileRequestValue, reasons}
use Rattle.acl_bridge.specs.declared.any_acl.AnyAcl.TheVariants.{Posix, Nfs4}
use Rattle.acl_bridge.specs.declared.any_acl.AnyAcl.{AnyAcl}

-- whether the request is granted
abbrev pub Decides : FileRequestValue → AnyAcl → Bool → Type 0
Decides asked (Posix acl) granted =
    granted ≡ grants acl asked.owner asked.group asked.requester asked.request
Decides asked (Nfs4 acl) granted = IsTrue granted
    ↔ Grants (matches asked.owner asked.group asked.requester) acl (mask_of asked.request)

-- the text says whether the request is granted, and why
pub record IsExplanation (explained : Explained) (text : List ℕ) : Type 0 where
  pub granted : Bool
  pub decides : Decides explained.asked explained.acl granted
  pub says : text ≡ answer_line granted ++ reasons nobody explained.asked explained.acl

-- what the fields of `explain` mean
abbrev pub explain_meaning : List Row → Meaning
explain_meaning = query_meaning true explained_in IsExplanation

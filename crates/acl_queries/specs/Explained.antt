-- What the fields of `explain` ask, read one by one.
use Rattle.std.specs.Prelude.{List, Result, Ok, codes}
use Rattle.clap.specs.Words.{Row}
use Rattle.acl_names.specs.Steps.{◌>>=◌}
use Rattle.acl_cli.specs.Fields.{gids_in, id_in, perms_in}
use Rattle.acl_queries.specs.ListField.{list_in}
use Rattle.acl_queries.specs.Reasons.{FileRequestValue}
use Rattle.acl_bridge.specs.declared.any_acl.AnyAcl.{AnyAcl}
use Rattle.acl_cli.specs.Faults.{Malformed}

-- why a file with this access control list grants the requester all of the request, or doesn't
pub record Explained : Type 0 where
  pub asked : FileRequestValue
  pub acl : AnyAcl

-- what is asked, or the fault of the first field that is malformed, in this order
unfoldable pub explained_in : List Row → Result Explained Malformed
explained_in rows = do
  owner ← id_in (codes "owner") rows
  group ← id_in (codes "group") rows
  uid ← id_in (codes "uid") rows
  gids ← gids_in rows
  perms ← perms_in rows
  acl ← list_in (codes "style") (codes "text") rows
  Ok (record {
    asked = record {
      owner = owner;
      group = group;
      requester = record { uid = uid; gids = gids };
      request = perms;
    };
    acl = acl;
  })

-- What the fields of `decide` ask, read one by one.
use Rattle.std.specs.Prelude.{ℕ, Bool, List, Result, Ok, codes}
use Rattle.clap.specs.Words.{Row}
use Rattle.acl_names.specs.Requester.{Identity}
use Rattle.acl_names.specs.Steps.{◌>>=◌}
use Rattle.acl_posix.specs.Entry.{EntryValue}
use Rattle.acl_posix.specs.declared.acl_text.AclFault.TheVariants as acl
use Rattle.acl_queries.specs.AclText.{acl_of}
use Rattle.acl_cli.specs.declared.field_fault.FieldFault.TheVariants.{Acl}
use Rattle.acl_cli.specs.Faults.{Malformed}
use Rattle.acl_cli.specs.Fields.{flag_in, gids_in, given, id_in, of_word, perms_in}

-- whether a file with this owner, this group and this access control list grants the requester all
-- of the request; and, with nfs4, which NFSv4 list it translates to
pub record Asked : Type 0 where
  pub owner : ℕ
  pub group : ℕ
  pub requester : Identity
  pub request : ℕ
  pub acl : List EntryValue
  pub nfs4 : Bool

abbrev pub acl_in : List Row → Result (List EntryValue) Malformed
acl_in = of_word (codes "text") (codes "TEXT") (given (Acl acl.BadAcl) acl_of)

-- what is asked, or the fault of the first field that is malformed, in this order
unfoldable pub asked_in : List Row → Result Asked Malformed
asked_in rows = do
  owner ← id_in (codes "owner") rows
  group ← id_in (codes "group") rows
  uid ← id_in (codes "uid") rows
  gids ← gids_in rows
  perms ← perms_in rows
  acl ← acl_in rows
  Ok (record {
    owner = owner;
    group = group;
    requester = record { uid = uid; gids = gids };
    request = perms;
    acl = acl;
    nfs4 = flag_in (codes "nfs4") rows;
  })

-- A requester who is in at most two groups.
use Rattle.std.specs.Prelude.{◌++◌, option_to_list}
use Rattle.acl_names.specs.Requester.{Identity}
use Rattle.acl_names.specs.declared.directory.asker.Asker.{Asker}

-- the requester that an asker is
abbrev pub identity_of : Asker → Identity
identity_of asker = record {
  uid = asker.uid;
  gids = option_to_list asker.gid ++ option_to_list asker.other_gid;
}

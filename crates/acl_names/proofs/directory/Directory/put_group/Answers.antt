use Rattle.acl_names.specs.Directory.{gid_of, group_name}
use Rattle.acl_names.proofs.IdTexts.{found_name_is_short}
use Rattle.acl_names.proofs.directory.Directory.put_group.Goals as goal

pub put_id-requires-clause-short : goal.put_id-requires-clause-short
put_id-requires-clause-short c =
    found_name_is_short (gid_of c.args.self.now) (group_name c.args.self.now) c.args.gid c.names_read_back.ensures.groups c.group_name.result c.group_name.ensures

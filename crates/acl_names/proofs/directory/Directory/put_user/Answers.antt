use Rattle.acl_names.specs.Directory.{uid_of, user_name}
use Rattle.acl_names.proofs.IdTexts.{found_name_is_short}
use Rattle.acl_names.proofs.directory.Directory.put_user.Goals as goal

pub put_id-requires-clause-short : goal.put_id-requires-clause-short
put_id-requires-clause-short c =
    found_name_is_short (uid_of c.args.self.now) (user_name c.args.self.now) c.args.uid c.names_read_back.ensures.users c.user_name.result c.user_name.ensures

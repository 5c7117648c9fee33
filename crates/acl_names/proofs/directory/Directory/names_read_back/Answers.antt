use Rattle.acl_names.proofs.DirectoryLemmas.{reports_names_apart}
use Rattle.acl_names.proofs.directory.Directory.names_read_back.Goals as goal

pub returns : goal.returns
returns c = reports_names_apart c.args.self.now (rw c.self.view_is at c.self.invariant).faultless

use Rattle.acl_nfs4.proofs.ReadLemmas.{ace_read}
use Rattle.acl_nfs4.proofs.reading.read_aces_by.Goals as goal

pub read_aces_with-requires : goal.read_aces_with-requires
read_aces_with-requires g c = ace_read (g.N.ResolveNames.names c.args.names.now)

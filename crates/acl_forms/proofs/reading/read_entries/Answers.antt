use Rattle.acl_forms.proofs.FormReads.{entry_read}
use Rattle.acl_forms.proofs.reading.read_entries.Goals as goal

pub read_aces_with-requires : goal.read_aces_with-requires
read_aces_with-requires g c = entry_read (g.N.ResolveNames.names c.args.names.now)

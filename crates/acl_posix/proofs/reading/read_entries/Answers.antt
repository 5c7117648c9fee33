use Rattle.acl_posix.proofs.ReadLemmas.{HavePermissions-Say}
use Rattle.acl_posix.proofs.reading.read_entries.Goals as goal

pub of_items-requires : goal.of_items-requires
of_items-requires g c = record {
  entries = record {
    within = c.in-Ok.ensures.read.within;
    permissions = HavePermissions-Say (g.N.ResolveNames.names c.args.names.now) _ c.in-Ok.items.items c.in-Ok.ensures.read.said;
  };
  room = c.in-Ok.ensures.room;
}

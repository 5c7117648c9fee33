use Rattle.acl_listings.proofs.DefaultLemmas.{lists_alone}
use Rattle.acl_listings.proofs.access.read_access_alone.Goals as goal

pub returns-in-Ok-new : goal.returns-in-Ok-new
returns-in-Ok-new g c = lists_alone (g.N.ResolveNames.names c.args.names.now) c.args.list.now c.in-Ok.entries c.in-Ok-new.access c.in-Ok.ensures.read
    (c.in-Ok-new.ensures.nothing_wrong.0 c.in-Ok-new.ensures.valid) c.in-Ok-new.ensures.list

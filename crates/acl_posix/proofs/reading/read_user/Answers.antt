use Rattle.acl_posix.proofs.FrontLemmas.{tag_resolved}
use Rattle.acl_posix.specs.declared.entry.Tag.TheVariants.{User}
use Rattle.acl_posix.proofs.reading.read_user.Goals as goal

pub returns : goal.returns
returns g c =
    tag_resolved (g.N.ResolveNames.names c.args.names.now).written (λ id. User id) (g.N.ResolveNames.names c.args.names.now).uid c.args.text.now c.in_ok-uid.uid c.in_ok-uid.ensures

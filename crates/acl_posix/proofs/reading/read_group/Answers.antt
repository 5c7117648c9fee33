use Rattle.acl_posix.proofs.FrontLemmas.{tag_resolved}
use Rattle.acl_posix.specs.declared.entry.Tag.TheVariants.{Group}
use Rattle.acl_posix.proofs.reading.read_group.Goals as goal

pub returns : goal.returns
returns g c =
    tag_resolved (g.N.ResolveNames.names c.args.names.now).written (λ id. Group id) (g.N.ResolveNames.names c.args.names.now).gid c.args.text.now c.in_ok-gid.gid c.in_ok-gid.ensures

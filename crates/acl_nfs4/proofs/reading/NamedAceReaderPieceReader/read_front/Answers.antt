use Rattle.std.proofs.Common.{sym}
use Rattle.acl_nfs4.specs.AceViews.{view_fields}
use Rattle.acl_nfs4.specs.NamedAces.{ace_by}
use Rattle.acl_nfs4.proofs.FrontLemmas.{front_is}
use Rattle.acl_nfs4.proofs.reading.NamedAceReaderPieceReader.read_front.Goals as goal

pub returns : goal.returns
returns g c =
    front_is (ace_by (g.N.ResolveNames.names c.args.self.now.names.now)) c.args.text.now (view_fields c.in-Some.fields) c.in-Some.rest.now c.in-Ok.ace c.in-Some.ensures
    (λ piece cut. sym (c.in-Ok.ensures piece cut))

use Rattle.std.proofs.Common.{sym}
use Rattle.acl_nfs4.proofs.DomainLemmas.{decimal_here}
use Rattle.acl_nfs4.proofs.domain.written_here.Goals as goal

pub returns-in-Some-clause-ok : goal.returns-in-Some-clause-ok
returns-in-Some-clause-ok c = decimal_here c.args.directory.now.domain c.args.text.now c.in-Some.number (sym c.in-Some.ensures)

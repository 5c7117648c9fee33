use Rattle.std.proofs.Common.{sym}
use Rattle.acl_wire.proofs.XdrAgain.{id_first}
use Rattle.acl_wire.proofs.xdr.who_in.Goals as goal

pub returns-in-Some : goal.returns-in-Some
returns-in-Some c = sym (id_first c.args.text.now c.in-Some.id (sym c.in-Some.ensures))

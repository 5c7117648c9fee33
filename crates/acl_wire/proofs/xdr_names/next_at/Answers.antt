use Rattle.std.proofs.Common.{sym, arith}
use Rattle.acl_wire.proofs.EntryLemmas.{beyond}
use Rattle.acl_wire.proofs.xdr_names.next_at.Goals as goal

pub returns-then-at-bytes : goal.returns-then-at-bytes
returns-then-at-bytes c = sym (beyond c.args.bytes.now c.args.at c.args.left (omega (arith, c.if-at-bytes.true)))

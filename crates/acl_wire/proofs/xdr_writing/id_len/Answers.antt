use Rattle.std.proofs.Common.{sym, arith}
use Rattle.acl_wire.proofs.XdrPutLemmas.{eight_digits, four_digits, twelve_digits}
use Rattle.acl_wire.proofs.xdr_writing.id_len.Goals as goal

pub returns-then-id-lt10000-clause-value : goal.returns-then-id-lt10000-clause-value
returns-then-id-lt10000-clause-value c = sym (four_digits c.args.id c.if-id-lt10000.true)

pub returns-then-id-lt100000000-clause-value : goal.returns-then-id-lt100000000-clause-value
returns-then-id-lt100000000-clause-value c = sym (eight_digits c.args.id c.if-id-lt10000.false c.if-id-lt100000000.true)

pub returns-else-id-lt100000000-clause-value : goal.returns-else-id-lt100000000-clause-value
returns-else-id-lt100000000-clause-value c = sym (twelve_digits c.args.id c.if-id-lt100000000.false (omega arith))

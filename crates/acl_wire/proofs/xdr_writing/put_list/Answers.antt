use Rattle.std.proofs.Common.{arith, rules}
use Rattle.acl_wire.proofs.xdr_writing.put_list.Goals as goal

pub returns-then-len-out : goal.returns-then-len-out
returns-then-len-out c = record { count_is = omega (arith, c.entries_len-len.ensures.value); room = λ _. c.put_all.ensures; no_room = λ less. absurd (omega (arith, c.entries_len-len.ensures.value, less, c.if-len-out.true)) }

pub returns-else-len-out : goal.returns-else-len-out
returns-else-len-out c = record { count_is = omega (arith, c.entries_len-len.ensures.value); room = λ fits. absurd (omega (arith, c.entries_len-len.ensures.value, fits, c.if-len-out.false)); no_room = λ _. search rules }

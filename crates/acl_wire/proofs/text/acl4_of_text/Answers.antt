use Rattle.acl_wire.proofs.NobodyLemmas.{none, none-IsNobody}
use Rattle.acl_wire.proofs.text.acl4_of_text.Goals as goal

pub returns-in-Err : goal.returns-in-Err
returns-in-Err c = (none, none-IsNobody, tt)

use Rattle.std.proofs.Common.{arith, refl, sym, ◌∙◌}
use Rattle.acl_wire.specs.XdrWritingSteps.{list_bytes}
use Rattle.acl_wire.proofs.XdrPutLemmas.{all_written, none_written}
use Rattle.acl_wire.proofs.xdr_writing.write_xdr.Goals as goal

pub returns-in-Some : goal.returns-in-Some
returns-in-Some c = (none_written c.args.raws.now (omega (arith, c.if-raws.false)) c.in-Some.fault c.in-Some.ensures, refl)

pub returns : goal.returns
returns c = (list_bytes c.args.raws.now, all_written c.args.raws.now (omega (arith, c.if-raws.false)) (sym c.in_default.is ∙ c.raws_fault.ensures), c.put_list.ensures)

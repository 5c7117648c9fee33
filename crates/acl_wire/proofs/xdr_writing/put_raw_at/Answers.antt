use Rattle.std.proofs.Common.{◌-◌, arith, drop, length}
use Rattle.std.proofs.lemmas.List.{length-drop, take_all}
use Rattle.acl_wire.specs.XdrWritingSteps.{raw_bytes}
use Rattle.acl_wire.proofs.XdrPutLemmas.{put_from}
use Rattle.acl_wire.proofs.xdr_writing.put_raw_at.Goals as goal

pub returns-clause-put : goal.returns-clause-put
returns-clause-put c =
    put_from c.args.at c.args.out.now (raw_bytes c.args.raw.now) _ c.put_raw.new.out c.requires
    (take_all (length c.args.out.now - c.args.at) (drop c.args.at c.args.out.now) (omega (arith, length-drop c.args.at c.args.out.now))) c.put_raw.ensures.room

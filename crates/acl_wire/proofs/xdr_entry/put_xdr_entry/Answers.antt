use Rattle.std.proofs.Common.{sym}
use Rattle.acl_wire.specs.XdrWritingSteps.{raw_bytes}
use Rattle.acl_wire.proofs.XdrPutLemmas.{unnamed_bytes}
use Rattle.acl_wire.proofs.xdr_entry.put_xdr_entry.Goals as goal

pub returns : goal.returns
returns c = (
  raw_bytes c.args.raw.now,
  unnamed_bytes c.args.raw.now c.args.name.now c.in_ok-checked.field-0 c.if-raw-eq-BY_NAME.false (sym c.in_ok-checked.ensures),
  c.put_raw.ensures,
)

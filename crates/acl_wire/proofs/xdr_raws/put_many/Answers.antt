use Rattle.std.proofs.Common.{◌∙◌, refl, sym, arith}
use Rattle.acl_wire.specs.XdrRaws.{raws_at}
use Rattle.acl_wire.proofs.XdrRawsLoop.{no_fault, raws_at-length}
use Rattle.acl_wire.proofs.xdr_raws.put_many.Goals as goal

pub returns-then-count-out : goal.returns-then-count-out
returns-then-count-out c =
    let it = no_fault (raws_at c.args.count c.args.bytes.now) (sym c.in_default.is ∙ c.fault_of.ensures) in
    let many = raws_at-length c.args.count c.args.bytes.now it.0 it.1.0 it.1.1 in (
      it.0,
      it.1.2,
      record {
        count_is = sym many;
        room = λ fits. c.put_raws.ensures it.0 it.1.0 it.1.1;
        no_room = λ less. absurd (omega (arith, less, many, c.if-count-out.true));
      },
    )

pub returns-else-count-out : goal.returns-else-count-out
returns-else-count-out c =
    let it = no_fault (raws_at c.args.count c.args.bytes.now) (sym c.in_default.is ∙ c.fault_of.ensures) in
    let many = raws_at-length c.args.count c.args.bytes.now it.0 it.1.0 it.1.1 in (
      it.0,
      it.1.2,
      record {
        count_is = sym many;
        room = λ fits. absurd (omega (arith, fits, many, c.if-count-out.false));
        no_room = λ less. refl;
      },
    )

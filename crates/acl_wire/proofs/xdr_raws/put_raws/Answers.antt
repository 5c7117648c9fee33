use Rattle.std.proofs.Common.{◌≡◌, ◌-◌, ℕ, subst, arith}
use Rattle.acl_wire.proofs.XdrRawsLoop.{IsPut, put_done, put_next, put_none, put_reads}
use Rattle.acl_wire.proofs.xdr_raws.put_raws.Goals as goal

pub loop-place-init : goal.loop-place-init
loop-place-init c raws end is =
    let all : c.args.count ≡ c.args.count - 0 = omega arith in
    subst (λ (n : ℕ). IsPut raws end n 0 c.args.bytes.now c.args.out.now c.args.out.now) all (put_none raws end c.args.count c.args.bytes.now c.args.out.now is)

pub loop-place-preserved : goal.loop-place-preserved
loop-place-preserved c raws end is =
    rw c.tidied.ensures
    (put_next raws end c.args.count c.loop-place.place c.loop-place.rest.now c.args.out.now c.loop-place.out (c.loop-place.invariant raws end is) c.loop-place-test.true
    c.in-Ok.raw c.in-Ok.behind.now c.in-Ok.ensures c.requires)

pub returns-in_default : goal.returns-in_default
returns-in_default c raws end is =
    absurd (put_reads raws end c.args.count c.loop-place.place c.loop-place.rest.now c.args.out.now c.loop-place.out (c.loop-place.invariant raws end is) c.loop-place-test.true
    c.in_default.field-0 c.in_default.ensures)

pub returns : goal.returns
returns c raws end is =
    put_done raws end c.args.count c.loop-place.place c.loop-place.rest.now c.args.out.now c.loop-place.out (c.loop-place.invariant raws end is) c.loop-place-test.false

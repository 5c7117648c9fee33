use Rattle.std.proofs.Common.{◌≡◌, ◌∙◌, ℕ, ◌-◌, ◌∷◌, [], eqb, true, false, length, refl, sym, ap, arith, length-append}
use Rattle.acl_names.proofs.StepLemmas.{handed_on}
use Rattle.acl_wire.specs.XdrRaws.{raws_at}
use Rattle.acl_wire.proofs.XdrLoop.{in_front, with_front}
use Rattle.acl_wire.proofs.XdrDraftLoop.{all_read, reads_on, stops, stops_at}
use Rattle.acl_wire.proofs.xdr_raws.read_raws.Goals as goal

pub loop-init : goal.loop-init
loop-init g c =
    let all : c.args.count - 0 ≡ c.args.count = omega arith in
    record {
      so_far = ap (λ (n : ℕ). with_front c.args.draft.now.items (raws_at n c.args.bytes.now)) all
          ∙ in_front c.args.draft.now.items (raws_at c.args.count c.args.bytes.now) c.requires.empty;
      many = rw c.requires.empty refl;
    }

pub loop-preserved : goal.loop-preserved
loop-preserved g c =
    let more = reads_on c.loop.draft.items c.args.count c.loop.counter c.loop.rest.now c.args.bytes.now c.loop.invariant.so_far c.loop-test.true c.in_ok-raw.raw c.in_ok-raw.behind.now c.in_default.field-0
    c.in_ok-raw.ensures (sym c.in_default.ensures) in
    record {
      so_far = rw (c.push.ensures.items, c.tidied.ensures) more;
      many = rw c.push.ensures.items (omega (arith, length-append c.loop.draft.items (c.tidied.result ∷ []), c.loop.invariant.many));
    }

pub returns-in_err-raw : goal.returns-in_err-raw
returns-in_err-raw g c =
    rw (handed_on c.from_residual.result _ c.from_residual.ensures.1)
    (stops c.loop.draft.items c.args.count c.loop.counter c.loop.rest.now c.args.bytes.now c.loop.invariant.so_far c.loop-test.true c.in_err-raw.field-0.0 c.in_err-raw.ensures)

pub returns-in-Err : goal.returns-in-Err
returns-in-Err g c =
    stops_at c.loop.draft.items c.args.count c.loop.counter c.loop.rest.now c.args.bytes.now c.loop.invariant.so_far c.loop-test.true c.in_ok-raw.raw c.in_ok-raw.behind.now c.in-Err.refused
    c.in_ok-raw.ensures (sym c.in-Err.ensures)

pub returns-then-is_empty : goal.returns-then-is_empty
returns-then-is_empty g c =
    let all = all_read c.loop.draft.items c.args.count c.loop.counter c.loop.rest.now c.args.bytes.now c.loop.invariant.so_far c.loop-test.false in
    let none : eqb (length c.loop.rest.now) 0 ≡ true = sym c.is_empty.ensures ∙ c.if-is_empty.true in
    rw (all, none) refl

pub returns-else-is_empty : goal.returns-else-is_empty
returns-else-is_empty g c =
    let all = all_read c.loop.draft.items c.args.count c.loop.counter c.loop.rest.now c.args.bytes.now c.loop.invariant.so_far c.loop-test.false in
    let more : eqb (length c.loop.rest.now) 0 ≡ false = sym c.is_empty.ensures ∙ c.if-is_empty.false in
    rw (all, more) refl

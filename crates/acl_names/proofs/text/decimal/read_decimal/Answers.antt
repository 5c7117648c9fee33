use Rattle.std.proofs.Common.{refl, sym, ◌∙◌, arith}
use Rattle.acl_names.proofs.Decimals.{below_ten_digits, one_digit_more, one_digit_worth}
use Rattle.acl_names.proofs.text.decimal.read_decimal.Goals as goal

pub overflow_mul-value : goal.overflow_mul-value
overflow_mul-value c =
    let low = below_ten_digits c.args.text.now c.loop-byte.byte-index c.loop-byte-test.true (omega arith) c.loop-byte.invariant.digits in
    omega (arith, low)

pub overflow_add-value : goal.overflow_add-value
overflow_add-value c =
    let low = below_ten_digits c.args.text.now c.loop-byte.byte-index c.loop-byte-test.true (omega arith) c.loop-byte.invariant.digits in
    omega (arith, low)

pub loop-byte-preserved : goal.loop-byte-preserved
loop-byte-preserved c =
    let is_digit = sym c.is_ascii_digit.ensures.value ∙ c.if-not-is_ascii_digit.false in
    record {
      digits = one_digit_more c.args.text.now c.loop-byte.byte-index _ c.loop-byte-test.true refl is_digit c.loop-byte.invariant.digits;
      so_far = rw (c.loop-byte.invariant.so_far, c.from.ensures) (one_digit_worth c.args.text.now c.loop-byte.byte-index _ c.loop-byte-test.true refl is_digit);
    }

use Rattle.std.proofs.Common.{suc, ◌≡◌, ◌≤◌, ◌+◌, refl, sym, ap, ◌∙◌, arith, length, take, drop, get_or, ◌∷◌, ◌++◌, Some}
use Rattle.std.proofs.Math.Seq.{split_at}
use Rattle.std.proofs.lemmas.List.{length-take-le, take_rest}
use Rattle.acl_names.specs.declared.limits.TheConstants.{MAX_ID}
use Rattle.acl_names.proofs.Decimals.{below_ten_more, one_digit_more, one_digit_worth}
use Rattle.acl_names.proofs.IdTexts.{decimal_is}
use Rattle.acl_names.proofs.text.decimal.read_decimal_until.Goals as goal

pub returns-then-byte-separator : goal.returns-then-byte-separator
returns-then-byte-separator c =
    let text = c.args.text.now in
    let at = c.loop-at.at in
    let inside : at ≤ length text = omega arith in
    let len : length (take at text) ≡ at = length-take-le at text inside in
    let more : at + 1 ≡ suc at = omega arith in
    let value = c.loop-at.invariant.so_far in
    let low : c.loop-at.value ≤ MAX_ID = omega (arith, c.from.ensures, c.if-value-from.false) in
    record {
      digits = take at text;
      cut = split_at text at 0 c.loop-at-test.true ∙ ap (λ n. take at text ++ get_or text at 0 ∷ drop n text) (sym more) ∙ ap (λ x. take at text ++ x ∷ drop (at + 1) text) c.if-byte-separator.true
          ∙ ap (λ t. take at text ++ c.args.separator ∷ t) (sym (take_rest text (at + 1)));
      writes = decimal_is (take at text) c.loop-at.invariant.digits (omega arith) (omega arith) (rw (← value) low) ∙ ap Some (sym value);
    }

pub overflow_mul-value : goal.overflow_mul-value
overflow_mul-value c =
    let low = below_ten_more c.args.text.now c.loop-at.at c.loop-at-test.true (omega arith) c.loop-at.invariant.digits in
    omega (arith, low)

pub overflow_add-value : goal.overflow_add-value
overflow_add-value c =
    let low = below_ten_more c.args.text.now c.loop-at.at c.loop-at-test.true (omega arith) c.loop-at.invariant.digits in
    omega (arith, low)

pub loop-at-preserved : goal.loop-at-preserved
loop-at-preserved c =
    let is_digit = sym c.is_ascii_digit.ensures.value ∙ c.if-not-is_ascii_digit.false in
    record {
      digits = one_digit_more c.args.text.now c.loop-at.at _ c.loop-at-test.true refl is_digit c.loop-at.invariant.digits;
      so_far = rw (c.loop-at.invariant.so_far, c.from-in-loop-at.ensures) (one_digit_worth c.args.text.now c.loop-at.at _ c.loop-at-test.true refl is_digit);
      few = omega arith;
    }

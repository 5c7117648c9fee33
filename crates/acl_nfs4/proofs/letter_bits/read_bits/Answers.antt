use Rattle.std.proofs.Common.{◌≡◌, sym, subst, take, arith, take_all}
use Rattle.acl_names.proofs.LettersInTurn.{AreRead, nothing_is_read, all_read}
use Rattle.acl_nfs4.proofs.LetterBits.{refused_zero, refused_again, read_more}
use Rattle.acl_nfs4.proofs.letter_bits.read_bits.Goals as goal
use Rattle.acl_nfs4.proofs.letter_bits.read_bits.Goals.{then-bit-eq0-via-then-bit-eq0, then-bit-eq0-via-else-bit-eq0+then-bits-bit-ne0}

pub loop-letter-init : goal.loop-letter-init
loop-letter-init c table gives = nothing_is_read table

pub returns-then-bit-eq0 : goal.returns-then-bit-eq0
returns-then-bit-eq0 c table gives =
    let text = c.args.text.now in
    let i = c.loop-letter.letter-index in
    elim c.then-bit-eq0.branch [
      | then-bit-eq0-via-then-bit-eq0 w ↦
          sym (refused_zero table c.args.bits_of.now gives text i c.loop-letter.bits c.bit_of_letter-bit.result c.loop-letter-test.true
          (c.loop-letter.invariant table gives) c.bit_of_letter-bit.ensures.byte c.bit_of_letter-bit.ensures.value w.if-bit-eq0.true)
      | then-bit-eq0-via-else-bit-eq0+then-bits-bit-ne0 w ↦
          sym (refused_again table c.args.bits_of.now gives text i c.loop-letter.bits c.bit_of_letter-bit.result c.loop-letter-test.true
          (c.loop-letter.invariant table gives) c.bit_of_letter-bit.ensures.byte c.bit_of_letter-bit.ensures.value w.if-bit-eq0.false
          w.if-bits-bit-ne0.true)
    ]

pub loop-letter-preserved : goal.loop-letter-preserved
loop-letter-preserved c table gives =
    read_more table c.args.bits_of.now gives c.args.text.now c.loop-letter.letter-index c.loop-letter.bits c.bit_of_letter-bit.result c.loop-letter-test.true
    (c.loop-letter.invariant table gives) c.bit_of_letter-bit.ensures.byte c.bit_of_letter-bit.ensures.value c.if-bit-eq0.false
    c.if-bits-bit-ne0.false

pub returns : goal.returns
returns c table gives =
    let whole : take c.loop-letter.letter-index c.args.text.now ≡ c.args.text.now = take_all c.loop-letter.letter-index c.args.text.now (omega arith) in
    sym (all_read table c.args.text.now c.loop-letter.bits (subst (λ t. AreRead table t c.loop-letter.bits) whole (c.loop-letter.invariant table gives)))

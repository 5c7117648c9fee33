use Rattle.std.proofs.Common.{◌≡◌, sym, subst, ◌∙◌, take, arith, take_all}
use Rattle.acl_names.proofs.LettersInTurn.{AreRead, nothing_is_read, one_more_read, refused_letter, refused_repeat, all_read}
use Rattle.acl_names.proofs.text.letters.read_letters.Goals as goal

pub loop-at-init : goal.loop-at-init
loop-at-init c = nothing_is_read c.args.table.now

pub returns-then-not-is_letter_of : goal.returns-then-not-is_letter_of
returns-then-not-is_letter_of c =
    sym (refused_letter c.args.table.now c.args.text.now c.loop-at.at c.loop-at-test.true (sym c.is_letter_of.ensures ∙ c.if-not-is_letter_of.true))

pub returns-then-stands_in : goal.returns-then-stands_in
returns-then-stands_in c =
    sym (refused_repeat c.args.table.now c.args.text.now c.loop-at.at c.loop-at-test.true (sym c.is_letter_of.ensures ∙ c.if-not-is_letter_of.false) (sym c.stands_in.ensures ∙ c.if-stands_in.true))

pub loop-at-preserved : goal.loop-at-preserved
loop-at-preserved c =
    rw c.bits_of_letter-bits.ensures
    (one_more_read c.args.table.now c.args.text.now c.loop-at.at c.loop-at.bits c.loop-at-test.true c.loop-at.invariant
    (sym c.is_letter_of.ensures ∙ c.if-not-is_letter_of.false) (sym c.stands_in.ensures ∙ c.if-stands_in.false))

pub returns : goal.returns
returns c =
    let whole : take c.loop-at.at c.args.text.now ≡ c.args.text.now = take_all c.loop-at.at c.args.text.now (omega arith) in
    sym (all_read c.args.table.now c.args.text.now c.loop-at.bits (subst (λ t. AreRead c.args.table.now t c.loop-at.bits) whole c.loop-at.invariant))

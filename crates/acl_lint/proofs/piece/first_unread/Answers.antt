use Rattle.std.proofs.Common.{◌≡◌, ◌∙◌, ◌+◌, ◌-◌, ◌<◌, suc, arith, false, sym}
use Rattle.std.specs.Prelude.{is_err}
use Rattle.acl_lint.proofs.PlaceLemmas.{unread-next, unread-passed}
use Rattle.acl_lint.proofs.piece.first_unread.Goals as goal

pub loop-number-preserved : goal.loop-number-preserved
loop-number-preserved g c =
    let read = g.R.PieceReader.value_of c.args.reader.now in
    let number = c.loop-number.number in
    let most = c.args.most in
    let below : number < most = omega arith in
    let one_more : most - number ≡ suc (most - (number + 1)) = omega (arith, below) in
    let reads : is_err (read c.in_ok-piece.piece.now) ≡ false = cc (c.is_err.ensures.value, c.read.ensures, c.if-is_err.false) in
    record {
      left =
          sym (unread-passed (read c.in_ok-piece.piece.now) _ _ reads)
          ∙ sym (unread-next read number (most - (number + 1)) (most - number) c.loop-number.pieces c.in_ok-piece.piece.now c.next.new.self c.in_ok-piece.ensures.piece one_more)
          ∙ c.loop-number.invariant.left;
    }

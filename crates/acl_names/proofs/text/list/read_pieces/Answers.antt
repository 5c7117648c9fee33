use Rattle.std.proofs.Common.{◌++◌, ◌∷◌, [], sym, ap, subst, ◌∙◌, arith}
use Rattle.std.proofs.lemmas.List.{append-nil, length_push}
use Rattle.acl_names.specs.Pieces.{pieces}
use Rattle.acl_names.specs.ListText.{PiecesSay}
use Rattle.acl_names.proofs.ListTextLemmas.{one_list, one_read, Say-push, fault_refuses}
use Rattle.acl_names.proofs.text.list.read_pieces.Goals as goal

pub loop-piece-preserved : goal.loop-piece-preserved
loop-piece-preserved g c =
    let so_far = c.loop-piece.invariant in
    let value_of = g.R.PieceReader.value_of c.args.reader.now in
    record {
      front = so_far.front ++ c.in-Some.piece.now ∷ [];
      cut = one_read (pieces c.args.text.now) so_far.front c.loop-piece.pieces c.next.new.self c.in-Some.piece.now so_far.cut c.in-Some.ensures.piece;
      said = rw c.in_ok-push-in-Ok.ensures.ok (Say-push value_of so_far.front c.loop-piece.list.items
          c.in-Some.piece.now c.in-Ok.value so_far.said (sym {b = value_of c.in-Some.piece.now} c.in-Ok.ensures));
      within = rw (c.in_ok-push-in-Ok.ensures.ok, length_push) (omega arith);
      room = omega (arith, so_far.room, c.in_ok-push-in-Ok.ensures.capacity);
    }

pub returns-in-Err-clause-only : goal.returns-in-Err-clause-only
returns-in-Err-clause-only g c = λ list spells.
    let so_far = c.loop-piece.invariant in
    let value_of = g.R.PieceReader.value_of c.args.reader.now in
    let whole = so_far.cut ∙ ap (λ rest. so_far.front ++ rest) c.in-Some.ensures.piece in
    absurd (fault_refuses value_of so_far.front c.in-Some.piece.now c.next.new.self c.in-Err.fault list
    (sym {b = value_of c.in-Some.piece.now} c.in-Err.ensures)
    (subst (λ ps. PiecesSay value_of ps list) whole spells.said))

pub returns-clause-only : goal.returns-clause-only
returns-clause-only g c = λ list spells.
    let so_far = c.loop-piece.invariant in
    let value_of = g.R.PieceReader.value_of c.args.reader.now in
    let whole = so_far.cut ∙ ap (λ rest. so_far.front ++ rest) c.in_default.ensures.piece ∙ append-nil so_far.front in
    one_list value_of so_far.front c.loop-piece.list.items list so_far.said (subst (λ ps. PiecesSay value_of ps list) whole spells.said)

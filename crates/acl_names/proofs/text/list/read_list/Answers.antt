use Rattle.acl_names.specs.Pieces.{pieces}
use Rattle.acl_names.proofs.ListTextLemmas.{one_list}
use Rattle.acl_names.proofs.text.list.read_list.Goals as goal

pub returns-then-plain-clause-only : goal.returns-then-plain-clause-only
returns-then-plain-clause-only g c = λ list spells.
    let value_of = g.R.PieceReader.value_of c.args.reader.now in
    let plainly = c.in_ok-plain.ensures.read c.if-plain.true in
    one_list value_of (pieces c.args.text.now) c.read_plainly.new.list.items list plainly.said spells.said

use Rattle.acl_names.specs.Pieces.{pieces}
use Rattle.acl_names.proofs.ListTextLemmas.{one_list}
use Rattle.acl_names.proofs.text.laws.texts_spell_one_list.Goals as goal

pub returns : goal.returns
returns g c = λ limit text list other first second. one_list (g.R.PieceReader.value_of c.args.reader.now) (pieces text) list other first.said second.said

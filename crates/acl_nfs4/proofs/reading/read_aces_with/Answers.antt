use Rattle.acl_nfs4.proofs.ReadLemmas.{AreAces-spelt}
use Rattle.acl_nfs4.proofs.reading.read_aces_with.Goals as goal

pub from_items-requires : goal.from_items-requires
from_items-requires g c = record {
  are_aces = AreAces-spelt (g.R.PieceReader.value_of c.args.reader.now) c.requires c.args.text.now c.in-Ok.aces.items c.in-Ok.ensures.read;
  room = λ _. c.in-Ok.ensures.room;
}

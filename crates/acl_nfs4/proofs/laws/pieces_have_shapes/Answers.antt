use Rattle.acl_nfs4.proofs.ShapeLemmas.{value_is_shape}
use Rattle.acl_nfs4.proofs.laws.pieces_have_shapes.Goals as goal

pub returns : goal.returns
returns c = value_is_shape

use Rattle.acl_posix.proofs.ShapeLemmas.{shape_of_read, read_of_shape}
use Rattle.acl_posix.proofs.laws.pieces_have_shapes.Goals as goal

pub returns : goal.returns
returns c = λ known piece entry. (shape_of_read known piece entry, read_of_shape known piece entry)

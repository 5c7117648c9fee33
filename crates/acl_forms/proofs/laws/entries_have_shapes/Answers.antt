use Rattle.acl_forms.proofs.FormShapeLemmas.{plainly, value_is_shape}
use Rattle.acl_forms.proofs.laws.entries_have_shapes.Goals as goal

pub returns-clause-shapes : goal.returns-clause-shapes
returns-clause-shapes c = value_is_shape

pub returns-clause-directory : goal.returns-clause-directory
returns-clause-directory c = plainly

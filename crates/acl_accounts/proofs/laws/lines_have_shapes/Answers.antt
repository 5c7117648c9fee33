use Rattle.acl_accounts.proofs.ShapeLemmas.{bad_of_none, none_of_bad, read_of_shape, shape_of_read}
use Rattle.acl_accounts.proofs.laws.lines_have_shapes.Goals as goal

pub returns-clause-rows : goal.returns-clause-rows
returns-clause-rows c = λ number line row. (shape_of_read number line row, read_of_shape number line row)

pub returns-clause-bad : goal.returns-clause-bad
returns-clause-bad c = λ number line. (none_of_bad number line, bad_of_none number line)

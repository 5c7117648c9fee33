use Rattle.std.proofs.Common.{length}
use Rattle.acl_tree.proofs.tree.walk.+compare_steps.Given as goal

abbrev pub decreases-compare_steps : goal.decreases-compare_steps
decreases-compare_steps l = length l.one.now

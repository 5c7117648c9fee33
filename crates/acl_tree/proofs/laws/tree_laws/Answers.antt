use Rattle.acl_tree.proofs.TreeLaws.{files_never_have_a_default, parents_are_directories, trees_are_within_the_limit, trees_have_paths_alone, the_umask_stays, nodes_stay, other_commands_leave_a_node}
use Rattle.acl_tree.proofs.laws.tree_laws.Goals as goal

pub returns-clause-defaults : goal.returns-clause-defaults
returns-clause-defaults c = files_never_have_a_default

pub returns-clause-parents : goal.returns-clause-parents
returns-clause-parents c = parents_are_directories

pub returns-clause-limit : goal.returns-clause-limit
returns-clause-limit c = trees_are_within_the_limit

pub returns-clause-paths : goal.returns-clause-paths
returns-clause-paths c = trees_have_paths_alone

pub returns-clause-umask : goal.returns-clause-umask
returns-clause-umask c = the_umask_stays

pub returns-clause-nodes : goal.returns-clause-nodes
returns-clause-nodes c = nodes_stay

pub returns-clause-elsewhere : goal.returns-clause-elsewhere
returns-clause-elsewhere c = other_commands_leave_a_node

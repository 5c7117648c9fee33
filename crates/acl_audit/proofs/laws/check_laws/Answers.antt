use Rattle.acl_audit.proofs.AlikeLemmas.{alike_nodes_are_checked_alike}
use Rattle.acl_audit.proofs.LetterLemmas.{read_is_checked, write_is_checked, execute_is_checked}
use Rattle.acl_audit.proofs.laws.check_laws.Goals as goal

pub returns-clause-read : goal.returns-clause-read
returns-clause-read c = read_is_checked

pub returns-clause-write : goal.returns-clause-write
returns-clause-write c = write_is_checked

pub returns-clause-execute : goal.returns-clause-execute
returns-clause-execute c = execute_is_checked

pub returns-clause-alike : goal.returns-clause-alike
returns-clause-alike c = alike_nodes_are_checked_alike

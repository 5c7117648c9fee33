use Rattle.acl_posix.proofs.LinuxLemmas.{decides_alike, grants_no_less}
use Rattle.acl_posix.proofs.laws.linux_laws.Goals as goal

pub returns-clause-no_less : goal.returns-clause-no_less
returns-clause-no_less c = grants_no_less

pub returns-clause-alike : goal.returns-clause-alike
returns-clause-alike c = decides_alike

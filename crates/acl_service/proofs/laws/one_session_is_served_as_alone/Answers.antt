use Rattle.acl_service.proofs.SessionLemmas.{served_alone}
use Rattle.acl_service.proofs.laws.one_session_is_served_as_alone.Goals as goal

pub returns : goal.returns
returns c = λ known tree text report is. served_alone known tree text report is

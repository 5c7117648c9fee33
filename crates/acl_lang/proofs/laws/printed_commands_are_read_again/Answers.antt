use Rattle.acl_lang.proofs.CommandLemmas.{line_again, session_again}
use Rattle.acl_lang.proofs.laws.printed_commands_are_read_again.Goals as goal

pub returns-clause-line : goal.returns-clause-line
returns-clause-line c = λ known request is short. line_again known request is short

pub returns-clause-session : goal.returns-clause-session
returns-clause-session c = λ known requests are. session_again known requests are

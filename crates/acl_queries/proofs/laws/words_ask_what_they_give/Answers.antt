use Rattle.acl_queries.proofs.AskLemmas.{Ask-asked_in, asked_in-Ask}
use Rattle.acl_queries.proofs.laws.words_ask_what_they_give.Goals as goal

pub returns : goal.returns
returns c = λ words asked. (asked_in-Ask words asked, λ asks. Ask-asked_in words asked asks.0 asks.1)

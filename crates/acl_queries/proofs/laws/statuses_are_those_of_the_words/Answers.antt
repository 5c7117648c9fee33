use Rattle.std.proofs.Common.{false, true}
use Rattle.acl_queries.specs.Asked.{asked_in}
use Rattle.acl_queries.specs.CompareLine.{compare_line}
use Rattle.acl_queries.specs.Compared.{compared_in}
use Rattle.acl_queries.specs.DecideAnswer.{IsDecideText}
use Rattle.acl_queries.specs.DecideLine.{decide_line}
use Rattle.acl_queries.specs.Differences.{IsComparison}
use Rattle.acl_queries.specs.ExplainLine.{explain_line}
use Rattle.acl_queries.specs.ExplainText.{IsExplanation}
use Rattle.acl_queries.specs.Explained.{explained_in}
use Rattle.acl_queries.proofs.StatusLemmas.{the_status_of_its_words}
use Rattle.acl_queries.proofs.laws.statuses_are_those_of_the_words.Goals as goal

pub returns-clause-decide : goal.returns-clause-decide
returns-clause-decide c = the_status_of_its_words decide_line false false asked_in IsDecideText

pub returns-clause-explain : goal.returns-clause-explain
returns-clause-explain c = the_status_of_its_words explain_line true true explained_in IsExplanation

pub returns-clause-compare : goal.returns-clause-compare
returns-clause-compare c = the_status_of_its_words compare_line true true compared_in IsComparison

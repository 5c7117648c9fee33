use Rattle.acl_broker.proofs.HeadlineLemmas.{merges}
use Rattle.acl_broker.proofs.laws.journal_merges_prefixes.Goals as goal

pub returns : goal.returns
returns g c = λ old history new run. merges g.S.Service.next g.S.Service.reply old new history run

use Rattle.acl_broker.specs.Takers.{view}
use Rattle.acl_broker.specs.Brokers as broker
use Rattle.std.proofs.Common.{◌∙◌, refl}
use Rattle.acl_runs.proofs.SettlingLemmas.{report_of}
use Rattle.acl_runs.proofs.serving.settle.Goals as goal

pub returns : goal.returns
returns g c handling opening limit limits wanted keeps limited served =
    report_of _ _ handling opening limit limits wanted (view c.args.taker) c.args.gathered (broker.view c.rejoin.result) _ keeps limited served c.requires
    (λ point is. c.rejoin.ensures.stands opening point keeps is)
    (c.into_parts-journal.ensures.journal ∙ c.rejoin.ensures.journal)
    (c.into_parts-journal.ensures.service ∙ c.rejoin.ensures.service) refl refl

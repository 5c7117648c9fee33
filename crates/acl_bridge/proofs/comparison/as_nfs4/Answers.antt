use Rattle.acl_bridge.specs.Comparison.{DecidesEachBit}
use Rattle.acl_bridge.specs.Translation.{translation}
use Rattle.acl_bridge.proofs.ComparisonLemmas.{translation_decides_each_bit}
use Rattle.acl_bridge.proofs.PassLemmas.{IfOk-is}
use Rattle.acl_bridge.proofs.comparison.as_nfs4.Goals as goal

pub returns : goal.returns
returns c =
    IfOk-is c.translate.result (translation c.args.acl.now) (DecidesEachBit c.args.acl.now)
    (translation_decides_each_bit c.args.acl.now c.entries-entries.ensures.acl.valid) c.translate.ensures.list

use Rattle.std.proofs.Common.{ℕ, ap}
use Rattle.acl_wire.specs.XdrWritingSteps.{text_by}
use Rattle.acl_wire.proofs.XdrPutLemmas.{put_with}
use Rattle.acl_wire.proofs.xdr_entry.put_raw.Goals as goal

pub returns-in-1 : goal.returns-in-1
returns-in-1 c = put_with c.args.raw.now c.tidied-numbers.result _ _ _ _ c.tidied-numbers.ensures (ap (λ (n : ℕ). text_by n c.args.raw.now.id) c.in-1.is) c.put_entry.ensures

pub returns-in-2 : goal.returns-in-2
returns-in-2 c = put_with c.args.raw.now c.tidied-numbers.result _ _ _ _ c.tidied-numbers.ensures (ap (λ (n : ℕ). text_by n c.args.raw.now.id) c.in-2.is) c.put_entry-in-2.ensures

pub returns-in-3 : goal.returns-in-3
returns-in-3 c = put_with c.args.raw.now c.tidied-numbers.result _ _ _ _ c.tidied-numbers.ensures (ap (λ (n : ℕ). text_by n c.args.raw.now.id) c.in-3.is) c.put_entry-in-3.ensures

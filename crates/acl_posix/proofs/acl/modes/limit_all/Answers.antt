use Rattle.std.proofs.Common.{arith}
use Rattle.std.proofs.lemmas.List.Edits.{map_over_more}
use Rattle.acl_posix.specs.Mode.{limit_to}
use Rattle.acl_posix.proofs.acl.modes.limit_all.Goals as goal

pub loop-entry-preserved : goal.loop-entry-preserved
loop-entry-preserved c =
    rw (c.limit_to.ensures, ← c.entry-item.is)
    (map_over_more (limit_to c.args.group_class.now c.args.mode) c.args.entries.now c.loop-entry.entries c.loop-entry.entry-index c.entry-item.result
    (omega arith) c.loop-entry.invariant c.entry-item.is)

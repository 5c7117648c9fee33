use Rattle.std.proofs.Common.{rules}
use Rattle.acl_names.proofs.Indexes.{one_more_entry}
use Rattle.acl_names.proofs.directory.named.ids_with_places.Goals as goal

pub loop-member-preserved : goal.loop-member-preserved
loop-member-preserved g c =
    let more = one_more_entry g.T.Named.id_of c.args.members.now c.loop-member.member-index c.member-item.result c.loop-member.entries.items c.loop-member-test.true c.loop-member.invariant in
    search (more, rules)

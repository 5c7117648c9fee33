use Rattle.std.proofs.Common.{◌≡◌, ◌∙◌, sym, true, false}
use Rattle.acl_accounts.proofs.FirstLemmas.{ends_with, one_again, one_more}
use Rattle.acl_accounts.proofs.named.first_of_each.Goals as goal

pub loop-member-preserved-then-ends_with_name : goal.loop-member-preserved-then-ends_with_name
loop-member-preserved-then-ends_with_name g c =
    let name_of = g.T.Named.name_of in
    let member = c.member-item.result in
    let firsts = c.loop-member.firsts.items in
    let reported = rw (c.deref.ensures.value, c.key.ensures) at c.ends_with_name.ensures in
    let ends : ends_with name_of (name_of member) firsts ≡ true = sym reported ∙ c.if-ends_with_name.true in
    one_again name_of c.args.members.now c.loop-member.member-index member firsts c.loop-member-test.true (sym c.member-item.is) c.loop-member.invariant ends

pub loop-member-preserved : goal.loop-member-preserved
loop-member-preserved g c =
    let name_of = g.T.Named.name_of in
    let member = c.member-item.result in
    let firsts = c.loop-member.firsts.items in
    let reported = rw (c.deref.ensures.value, c.key.ensures) at c.ends_with_name.ensures in
    let ends : ends_with name_of (name_of member) firsts ≡ false = sym reported ∙ c.if-ends_with_name.false in
    rw c.in_ok-push.ensures.items (one_more name_of c.args.members.now c.loop-member.member-index member firsts c.requires c.loop-member-test.true (sym c.member-item.is) c.loop-member.invariant ends)

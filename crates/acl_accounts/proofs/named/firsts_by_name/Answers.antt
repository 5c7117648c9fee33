use Rattle.std.proofs.Common.{◌∙◌, ap, filter, bytes_eq}
use Rattle.std.proofs.lemmas.Result.{IfOk-weaker}
use Rattle.acl_accounts.proofs.FirstLemmas.{firsts_stay}
use Rattle.acl_accounts.proofs.named.firsts_by_name.Goals as goal

pub returns : goal.returns
returns g c =
    let name_of = g.T.Named.name_of in
    let sorted = c.sort_by_name.new.members.items in
    IfOk-weaker c.first_of_each.result _ _
    (λ firsts. firsts_stay name_of c.args.members.now sorted firsts.items
    (λ name. c.sort_by_name.ensures.kept name ∙ ap (filter (λ x. bytes_eq (name_of x) name)) c.in_ok-sorted.ensures.items))
    (rw c.deref.ensures.value at c.first_of_each.ensures)

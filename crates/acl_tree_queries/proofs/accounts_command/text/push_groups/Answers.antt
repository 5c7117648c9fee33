use Rattle.std.proofs.Common.{rules, ◌≡◌, ◌∙◌, ◌<◌, ◌++◌, ap, get_or, length}
use Rattle.acl_tree_queries.specs.AccountsText.{HasGid, group_text}
use Rattle.acl_tree_queries.proofs.AccountsLemmas.{next_added}
use Rattle.acl_tree_queries.proofs.accounts_command.text.push_groups.Goals as goal

pub loop-group-preserved : goal.loop-group-preserved
loop-group-preserved c =
    let groups = c.args.directory.now.groups in
    let at = c.loop-group.group-index in
    let group = c.group-item.result in
    let here : get_or groups at group ≡ group = search rules in
    let within : at < length groups = search rules in
    let text = c.in_ok-push_group.ensures.text ∙ ap (λ users. c.loop-group.out.items ++ group_text users group) c.users.ensures.list in
    next_added (group_text c.args.directory.now.users) HasGid groups at group within here c.args.out.now.items c.loop-group.out.items c.push_group.new.out.items
    c.loop-group.invariant text c.in_ok-push_group.ensures.gid

use Rattle.std.proofs.Common.{rules, ◌≡◌, ◌<◌, get_or, length}
use Rattle.acl_tree_queries.specs.AccountsText.{HasIds, user_text}
use Rattle.acl_tree_queries.proofs.AccountsLemmas.{next_added}
use Rattle.acl_tree_queries.proofs.accounts_command.text.push_users.Goals as goal

pub loop-user-preserved : goal.loop-user-preserved
loop-user-preserved c =
    let users = c.args.directory.now.users in
    let at = c.loop-user.user-index in
    let user = c.user-item.result in
    let here : get_or users at user ≡ user = search rules in
    let within : at < length users = search rules in
    next_added (user_text c.args.directory.now) (HasIds c.args.directory.now) users at user within here c.args.out.now.items c.loop-user.out.items c.push_user.new.out.items
    c.loop-user.invariant c.in_ok-push_user.ensures.text c.in_ok-push_user.ensures.ids

use Rattle.std.proofs.lemmas.Result.{on_ok_weaker}
use Rattle.acl_accounts.proofs.TextLemmas.{rows_again}
use Rattle.acl_tree_queries.specs.AccountsText.{rows_of_known}
use Rattle.acl_tree_queries.proofs.AccountsLemmas.{rows_plain, text_added}
use Rattle.acl_tree_queries.proofs.accounts_command.text.push_accounts.Goals as goal

pub returns-clause-text : goal.returns-clause-text
returns-clause-text c =
    on_ok_weaker c.push_groups.result
    (λ added. text_added c.args.directory.now c.args.out.now.items c.push_users.new.out.items c.push_groups.new.out.items c.in_ok-push_users.ensures.text added.text)
    c.push_groups.ensures

pub returns-clause-read : goal.returns-clause-read
returns-clause-read c =
    let known = c.args.directory.now in
    on_ok_weaker c.push_groups.result
    (λ added. rows_again (rows_of_known known) (rows_plain known c.is_faultless.ensures c.in_ok-push_users.ensures.have added.have))
    c.push_groups.ensures

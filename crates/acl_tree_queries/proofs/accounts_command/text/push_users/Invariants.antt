use Rattle.std.proofs.Common.{take}
use Rattle.acl_tree_queries.specs.AccountsText.{Adds, HasIds, user_text}
use Rattle.acl_tree_queries.proofs.accounts_command.text.push_users.Given as goal

-- the lines of the users so far
abbrev pub invariant-loop-user : goal.invariant-loop-user
invariant-loop-user l = Adds (user_text l.directory) (HasIds l.directory) (take l.user-index l.directory.users) l.initial.out.items l.out.items

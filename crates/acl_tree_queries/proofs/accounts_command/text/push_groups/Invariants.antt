use Rattle.std.proofs.Common.{take}
use Rattle.acl_tree_queries.specs.AccountsText.{Adds, HasGid, group_text}
use Rattle.acl_tree_queries.proofs.accounts_command.text.push_groups.Given as goal

-- the lines of the groups so far
abbrev pub invariant-loop-group : goal.invariant-loop-group
invariant-loop-group l = Adds (group_text l.directory.users) HasGid (take l.group-index l.directory.groups) l.initial.out.items l.out.items

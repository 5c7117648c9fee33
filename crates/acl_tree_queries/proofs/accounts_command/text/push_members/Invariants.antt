use Rattle.std.proofs.Common.{◌≡◌, ◌++◌, take}
use Rattle.std.specs.List.{join_with_byte}
use Rattle.acl_names.specs.Bytes.{comma}
use Rattle.acl_tree_queries.specs.AccountsText.{members_in}
use Rattle.acl_tree_queries.proofs.AccountsLemmas.{is_first}
use Rattle.acl_tree_queries.proofs.accounts_command.text.push_members.Given as goal

-- the members so far, and whether there is none
abbrev pub invariant-loop-user : goal.invariant-loop-user
invariant-loop-user l = record {
  text : l.out.items ≡ l.initial.out.items ++ join_with_byte comma (members_in l.group (take l.user-index l.users));
  first : l.first ≡ is_first (members_in l.group (take l.user-index l.users));
}

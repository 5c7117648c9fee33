-- What contracts see of the types of this crate: without where the bytes lie in memory.
use Rattle.std.specs.Prelude.{map}
use Rattle.acl_names.specs.Ids as ids
use Rattle.acl_accounts.specs.Rows as text
use Rattle.acl_accounts.specs.Accounts as accounts
use Rattle.acl_accounts.specs.declared.memberships.Membership.{Membership}
use Rattle.acl_accounts.specs.declared.rows.UserRow.{UserRow}
use Rattle.acl_accounts.specs.declared.rows.GroupRow.{GroupRow}
use Rattle.acl_accounts.specs.declared.rows.Row.{Row}
use Rattle.acl_accounts.specs.declared.rows.Row.TheVariants as row
use Rattle.acl_accounts.specs.declared.rows.Rows.{Rows}
use Rattle.acl_accounts.specs.declared.written.WrittenAccount.{WrittenAccount}
use Rattle.acl_accounts.specs.declared.written.WrittenAccount.TheVariants as written

abbrev pub view_user : UserRow → text.UserRow
view_user user = record { name = user.name.now; uid = user.uid; gid = user.gid }

abbrev pub view_group : GroupRow → text.GroupRow
view_group group = record {
  name = group.name.now;
  gid = group.gid;
  members = text.members_of group.members.now;
  line = group.line;
}

abbrev pub view_row : Row → text.Row
view_row (row.User user) = text.IsUser (view_user user)
view_row (row.Group group) = text.IsGroup (view_group group)
view_row row.Passed = text.IsPassed

abbrev pub view_rows : Rows → text.Rows
view_rows rows = record {
  users = map view_user rows.users.items;
  groups = map view_group rows.groups.items;
}

abbrev pub view_written : WrittenAccount → ids.Written
view_written (written.Number number) = ids.Number number
view_written (written.Name name) = ids.Name name.now

abbrev pub view_membership : Membership → accounts.Membership
view_membership membership = record { name = membership.name.now; gid = membership.gid }

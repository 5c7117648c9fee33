use Rattle.std.proofs.Common.{map}
use Rattle.acl_accounts.specs.Accounts.{memberships_of}
use Rattle.acl_accounts.specs.Views.{view_group}
use Rattle.acl_accounts.proofs.ResultLemmas.{uids_asked}
use Rattle.acl_accounts.proofs.accounts.Accounts.from_rows.Goals as goal

pub invariant_of-result : goal.invariant_of-result
invariant_of-result c =
    let asked = rw (c.deref-3.ensures.value, c.deref-4.ensures.value) at c.in_ok-requesters.ensures in
    record {
      ordered = record {
        users = c.in_ok-users.ensures.order;
        groups = c.in_ok-groups.ensures.order;
        uids = rw asked (uids_asked (memberships_of (map view_group c.args.rows.now.groups.items)) c.in_ok-users.users.items);
      };
      users = rw c.deref-5.ensures.value at c.in_ok-user_index.ensures;
      groups = rw c.deref-6.ensures.value at c.in_ok-group_index.ensures;
    }

pub returns : goal.returns
returns c =
    let asked = rw (c.deref-3.ensures.value, c.deref-4.ensures.value) at c.in_ok-requesters.ensures in
    record {
      ordered = record {
        users = c.in_ok-users.ensures.order;
        groups = c.in_ok-groups.ensures.order;
        uids = rw asked (uids_asked (memberships_of (map view_group c.args.rows.now.groups.items)) c.in_ok-users.users.items);
      };
      users = rw c.deref.ensures.value at c.in_ok-users.ensures.found;
      groups = rw c.deref-2.ensures.value at c.in_ok-groups.ensures.found;
      requesters = asked;
    }

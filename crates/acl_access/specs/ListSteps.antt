-- What two POSIX lists grant. Private steps, which no public clause cites.
use Rattle.acl_bridge.specs.Comparison.{Granter, grants_at}
use Rattle.acl_access.specs.declared.changes.Lists.{Lists}

abbrev pub grants_before : Lists → Granter
grants_before lists = grants_at lists.before.now lists.owners.now

abbrev pub grants_after : Lists → Granter
grants_after lists = grants_at lists.after.now lists.other_owners.now

use Rattle.std.proofs.Common.{◌≡◌, ◌-◌}
use Rattle.acl_posix.specs.Perms.{bits_of}
use Rattle.acl_wire.specs.OnePass.{goes_on, nothing_seen}
use Rattle.acl_wire.specs.XattrReading.{entries_at}
use Rattle.acl_wire.proofs.one_pass.seen_at.Given as goal

-- what was seen goes on as nothing seen would with all
abbrev pub invariant-loop : goal.invariant-loop
invariant-loop l =
    goes_on (record { uid = l.caller.uid; gids = l.caller.gids.now }) l.group (bits_of l.request) l.seen (entries_at (l.count - l.counter) l.rest)
    ≡ goes_on (record { uid = l.caller.uid; gids = l.caller.gids.now }) l.group (bits_of l.request) nothing_seen (entries_at l.count l.bytes)

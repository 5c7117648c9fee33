use Rattle.std.proofs.Common.{◌∙◌, Some, None, ap, cond, sym}
use Rattle.acl_posix.specs.Perms.{bits_of}
use Rattle.acl_wire.specs.OnePass.{goes_on, nothing_seen}
use Rattle.acl_wire.specs.XattrReading.{entries_at}
use Rattle.acl_wire.proofs.OnePassLoop.{goes_on-done, goes_on-ends, goes_on-next, goes_on-none}
use Rattle.acl_wire.proofs.one_pass.seen_at.Goals as goal

pub returns-in_default : goal.returns-in_default
returns-in_default c =
    goes_on-ends (record { uid = c.args.caller.now.uid; gids = c.args.caller.now.gids.now }) c.args.group (bits_of c.args.request) c.loop.seen c.args.count c.loop.counter c.loop.rest.now c.in_default.field-0
    (goes_on (record { uid = c.args.caller.now.uid; gids = c.args.caller.now.gids.now }) c.args.group (bits_of c.args.request) nothing_seen (entries_at c.args.count c.args.bytes.now)) c.loop-test.true c.in_default.ensures c.loop.invariant

pub returns-then-not-add_fields : goal.returns-then-not-add_fields
returns-then-not-add_fields c =
    goes_on-none (record { uid = c.args.caller.now.uid; gids = c.args.caller.now.gids.now }) c.args.group (bits_of c.args.request) c.loop.seen c.args.count c.loop.counter c.loop.rest.now c.in-Ok.behind.now c.in-Ok.fields
    (goes_on (record { uid = c.args.caller.now.uid; gids = c.args.caller.now.gids.now }) c.args.group (bits_of c.args.request) nothing_seen (entries_at c.args.count c.args.bytes.now)) c.loop-test.true c.in-Ok.ensures (sym (c.add_fields.ensures ∙ ap (λ b. cond b (Some c.add_fields.new.self) None) c.if-not-add_fields.true)) c.loop.invariant

pub loop-preserved : goal.loop-preserved
loop-preserved c =
    goes_on-next (record { uid = c.args.caller.now.uid; gids = c.args.caller.now.gids.now }) c.args.group (bits_of c.args.request) c.loop.seen c.add_fields.new.self c.args.count c.loop.counter c.loop.rest.now c.in-Ok.behind.now c.in-Ok.fields
    (goes_on (record { uid = c.args.caller.now.uid; gids = c.args.caller.now.gids.now }) c.args.group (bits_of c.args.request) nothing_seen (entries_at c.args.count c.args.bytes.now)) c.loop-test.true c.in-Ok.ensures (sym (c.add_fields.ensures ∙ ap (λ b. cond b (Some c.add_fields.new.self) None) c.if-not-add_fields.false)) c.loop.invariant

pub returns : goal.returns
returns c =
    goes_on-done (record { uid = c.args.caller.now.uid; gids = c.args.caller.now.gids.now }) c.args.group (bits_of c.args.request) c.loop.seen c.args.count c.loop.counter c.loop.rest.now
    (goes_on (record { uid = c.args.caller.now.uid; gids = c.args.caller.now.gids.now }) c.args.group (bits_of c.args.request) nothing_seen (entries_at c.args.count c.args.bytes.now)) c.loop-test.false c.loop.invariant

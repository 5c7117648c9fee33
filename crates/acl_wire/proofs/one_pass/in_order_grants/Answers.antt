use Rattle.std.proofs.Common.{◌≡◌, Ok, sym}
use Rattle.acl_posix.specs.Perms.{bits_of}
use Rattle.acl_wire.specs.Check.{answer_in}
use Rattle.acl_wire.specs.Posix.{acl_of}
use Rattle.acl_wire.specs.XattrReading.{entries_of}
use Rattle.acl_wire.proofs.OnePassLoop.{seen-read}
use Rattle.acl_wire.proofs.one_pass.in_order_grants.Goals as goal

pub returns-then-is_list-clause-answer : goal.returns-then-is_list-clause-answer
unfolding acl_of
returns-then-is_list-clause-answer c =
    seen-read (record { uid = c.args.caller.now.uid; gids = c.args.caller.now.gids.now }) c.args.group (bits_of c.args.request) (entries_of c.args.bytes.now) c.in_ok-seen.seen
    (answer_in c.args.rules c.args.bytes.now c.args.owner c.args.group (record { uid = c.args.caller.now.uid; gids = c.args.caller.now.gids.now }) (bits_of c.args.request) ≡ Ok c.answer.result)
    (sym c.in_ok-seen.ensures) (λ entries read is. rw read (c.answer.ensures entries is (sym c.if-is_list.ensures)))

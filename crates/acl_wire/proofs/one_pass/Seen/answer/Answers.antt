use Rattle.std.proofs.Common.{◌∙◌, Some, true, false, ap, refl, sym}
use Rattle.acl_posix.specs.Perms.{bits_of}
use Rattle.acl_wire.proofs.OnePassAnswers.{by_groups, by_others, by_owner, by_user, over-group, over-other}
use Rattle.acl_wire.proofs.one_pass.Seen.answer.Goals as goal

pub returns-then-eq : goal.returns-then-eq
returns-then-eq c entries is complete =
    rw c.unwrap_or.ensures (by_owner (record { uid = c.args.caller.now.uid; gids = c.args.caller.now.gids.now }) c.args.group (bits_of c.args.request) entries c.args.self is complete c.args.rules c.args.owner (sym c.if-eq.ensures))

pub returns-then-is_in_group : goal.returns-then-is_in_group
returns-then-is_in_group c entries is complete =
    rw (c.contains.ensures tt, c.empty.ensures tt)
    (over-group (record { uid = c.args.caller.now.uid; gids = c.args.caller.now.gids.now }) c.args.group (bits_of c.args.request) entries c.args.self is complete c.args.rules c.args.owner
    (sym c.if-eq.ensures) (sym c.if-is_passed_over.ensures) (sym c.if-is_in_group.ensures))

pub returns-then-is_passed_over : goal.returns-then-is_passed_over
returns-then-is_passed_over c entries is complete =
    rw c.unwrap_or-then-is_passed_over.ensures
    (over-other (record { uid = c.args.caller.now.uid; gids = c.args.caller.now.gids.now }) c.args.group (bits_of c.args.request) entries c.args.self is complete c.args.rules c.args.owner
    (sym c.if-eq.ensures) (sym c.if-is_passed_over.ensures) (sym c.if-is_in_group.ensures))

pub returns-then-has : goal.returns-then-has
returns-then-has c entries is complete =
    by_user (record { uid = c.args.caller.now.uid; gids = c.args.caller.now.gids.now }) c.args.group (bits_of c.args.request) entries c.args.self is complete c.args.rules c.args.owner
    (sym c.if-eq.ensures) (sym c.if-is_passed_over.ensures) true c.mask_allows.result (c.in-Some.is ∙ ap Some c.if-has.true) c.mask_allows.ensures

pub returns-else-has : goal.returns-else-has
returns-else-has c entries is complete =
    rw c.if-has.false
    (by_user (record { uid = c.args.caller.now.uid; gids = c.args.caller.now.gids.now }) c.args.group (bits_of c.args.request) entries c.args.self is complete c.args.rules c.args.owner
    (sym c.if-eq.ensures) (sym c.if-is_passed_over.ensures) false _ (c.in-Some.is ∙ ap Some c.if-has.false) refl)

pub returns-then-has-2 : goal.returns-then-has-2
returns-then-has-2 c entries is complete =
    by_groups (record { uid = c.args.caller.now.uid; gids = c.args.caller.now.gids.now }) c.args.group (bits_of c.args.request) entries c.args.self is complete c.args.rules c.args.owner
    (sym c.if-eq.ensures) (sym c.if-is_passed_over.ensures) true c.mask_allows-then-has-2.result c.in_default.is (c.in-Some-groups.is ∙ ap Some c.if-has-2.true) c.mask_allows-then-has-2.ensures

pub returns-else-has-2 : goal.returns-else-has-2
returns-else-has-2 c entries is complete =
    rw c.if-has-2.false
    (by_groups (record { uid = c.args.caller.now.uid; gids = c.args.caller.now.gids.now }) c.args.group (bits_of c.args.request) entries c.args.self is complete c.args.rules c.args.owner
    (sym c.if-eq.ensures) (sym c.if-is_passed_over.ensures) false _ c.in_default.is (c.in-Some-groups.is ∙ ap Some c.if-has-2.false) refl)

pub returns-in-None : goal.returns-in-None
returns-in-None c entries is complete =
    rw c.unwrap_or-in-None.ensures
    (by_others (record { uid = c.args.caller.now.uid; gids = c.args.caller.now.gids.now }) c.args.group (bits_of c.args.request) entries c.args.self is complete c.args.rules c.args.owner
    (sym c.if-eq.ensures) (sym c.if-is_passed_over.ensures) c.in_default.is c.in-None.is)

use Rattle.std.proofs.Common.{◌≡◌, ◌∙◌, ◌<◌, ◌≤◌, Err, ap, sym, length, lit<, rules, arith}
use Rattle.std.proofs.lemmas.Iterator.Consumers.{YieldsList-end, YieldsList-so_far, YieldsList-turn}
use Rattle.std.proofs.lemmas.Iterator.Splits.{YieldsList-from_str_split}
use Rattle.acl_names.specs.Bytes.{comma}
use Rattle.acl_names.specs.Pieces.{parts}
use Rattle.acl_cli.specs.Fields.{id_of}
use Rattle.acl_names.specs.ReadList.{at_most_read}
use Rattle.acl_names.specs.declared.limits.TheConstants.{MAX_GROUPS_OF_USER}
use Rattle.acl_names.proofs.ReadListLemmas.{apart_at, at_most_read-all, at_most_read-fault, at_most_read-many}
use Rattle.acl_cli.specs.declared.failure.Failure.TheVariants.{Field}
use Rattle.acl_cli.specs.declared.field_fault.FieldFault.TheVariants.{TooMany}
use Rattle.acl_cli.proofs.ids.read_gids.Goals as goal

pub returns-then-len-eq-MAX_GIDS-clause-refused :
    goal.returns-then-len-eq-MAX_GIDS-clause-refused
returns-then-len-eq-MAX_GIDS-clause-refused c =
    let full : length c.loop-piece.gids.items ≡ MAX_GROUPS_OF_USER = omega (arith, c.loop-piece.gids.ok.0) in
    let split = YieldsList-from_str_split comma c.args.text.now (lit< tt) (search rules) (search rules) (search rules) in
    let front = YieldsList-so_far split c.loop-piece.yielded _ c.loop-piece.yielded_by in
    let turn = YieldsList-turn split c.loop-piece.yielded _ c.loop-piece.yielded_by _ _ c.in-Some.piece c.in-Some.is c.next.ensures.steps in
    let apart = apart_at (parts comma c.args.text.now) _ _ c.in-Some.piece.now front turn.0 turn.1 in
    ap (at_most_read TooMany MAX_GROUPS_OF_USER id_of) apart ∙ at_most_read-many id_of TooMany MAX_GROUPS_OF_USER _ _ _ _ c.loop-piece.invariant.said full

pub returns-in_err-gid-clause-refused : goal.returns-in_err-gid-clause-refused
returns-in_err-gid-clause-refused c =
    let room : length c.loop-piece.gids.items < MAX_GROUPS_OF_USER = omega (arith, c.loop-piece.invariant.within, c.loop-piece.gids.ok.0) in
    let bad : id_of c.in-Some.piece.now ≡ Err c.in_err-gid.field-0.0 = search rules in
    let fault : c.from_residual.result ≡ Err (Field c.in_err-gid.field-0.0) = search rules in
    let split = YieldsList-from_str_split comma c.args.text.now (lit< tt) (search rules) (search rules) (search rules) in
    let front = YieldsList-so_far split c.loop-piece.yielded _ c.loop-piece.yielded_by in
    let turn = YieldsList-turn split c.loop-piece.yielded _ c.loop-piece.yielded_by _ _ c.in-Some.piece c.in-Some.is c.next.ensures.steps in
    let apart = apart_at (parts comma c.args.text.now) _ _ c.in-Some.piece.now front turn.0 turn.1 in
    rw fault (ap (at_most_read TooMany MAX_GROUPS_OF_USER id_of) apart ∙ at_most_read-fault id_of TooMany MAX_GROUPS_OF_USER _ _ _ _ c.loop-piece.invariant.said _ room bad)

pub returns-clause-read : goal.returns-clause-read
returns-clause-read c =
    let within : length c.loop-piece.gids.items ≤ MAX_GROUPS_OF_USER = omega (arith, c.loop-piece.invariant.within, c.loop-piece.gids.ok.0) in
    let split = YieldsList-from_str_split comma c.args.text.now (lit< tt) (search rules) (search rules) (search rules) in
    let all = YieldsList-end split c.loop-piece.yielded _ c.loop-piece.yielded_by _ _ c.in-None.is c.next.ensures.steps in
    ap (at_most_read TooMany MAX_GROUPS_OF_USER id_of) (sym all.0) ∙ at_most_read-all id_of TooMany MAX_GROUPS_OF_USER _ _ c.loop-piece.invariant.said within

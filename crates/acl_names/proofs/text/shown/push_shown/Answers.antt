use Rattle.std.proofs.Common.{flat_map, take}
use Rattle.std.proofs.lemmas.Result.{err_from_is_err_and}
use Rattle.acl_names.specs.Shown.{shown_byte}
use Rattle.acl_names.proofs.Prefixes.{keeps_front}
use Rattle.acl_names.proofs.text.shown.push_shown.Goals as goal

pub returns-in_err-push_shown_byte : goal.returns-in_err-push_shown_byte
returns-in_err-push_shown_byte c =
    let p = err_from_is_err_and c.from_residual.result c.from_residual.ensures.1 in
    let was = c.loop-byte.invariant in
    rw p.1 (record {
      text = tt;
      kept = keeps_front c.args.out.now.items (flat_map shown_byte (take c.loop-byte.byte-index c.shown_front-front.result.now)) c.loop-byte.out.items _ was.text c.in_err-push_shown_byte.ensures.kept;
    })

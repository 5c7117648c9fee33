use Rattle.std.proofs.Common.{take}
use Rattle.std.proofs.lemmas.Result.{err_from_is_err_and}
use Rattle.acl_names.proofs.Prefixes.{keeps_front}
use Rattle.acl_accounts.specs.Names.{quoted}
use Rattle.acl_accounts.proofs.quoting.push_quoted.Goals as goal

pub returns-in_err-push_byte : goal.returns-in_err-push_byte
returns-in_err-push_byte c =
    let p = err_from_is_err_and c.from_residual.result c.from_residual.ensures.1 in
    let was = c.loop-byte.invariant in
    rw p.1 (record {
      text = tt;
      kept = keeps_front c.args.out.now.items (quoted (take c.loop-byte.byte-index c.args.name.now)) c.loop-byte.out.items _ was.text c.in_err-push_byte.ensures.kept;
    })

use Rattle.std.proofs.Common.{◌∷◌, [], Ok, refl}
use Rattle.std.proofs.lemmas.Result.{err_from_is_err_and}
use Rattle.acl_names.specs.Bytes.{newline}
use Rattle.acl_names.proofs.Pushed.{PushesInRoom-put, PushesInRoom-then}
use Rattle.acl_nfs4.specs.PrintedText.{ace_text}
use Rattle.acl_nfs4.proofs.PrintedFronts.{PushesInRoom-front}
use Rattle.acl_nfs4.proofs.printing.push_line.Goals as goal

pub returns-in_err-push_ace-clause-printed : goal.returns-in_err-push_ace-clause-printed
returns-in_err-push_ace-clause-printed c =
    let p = err_from_is_err_and c.from_residual.result c.from_residual.ensures.1 in
    rw p.1 (PushesInRoom-front (ace_text c.args.directory.now c.args.ace.now) (newline ∷ []) refl c.in_err-push_ace.ensures.printed)

pub returns-clause-printed : goal.returns-clause-printed
returns-clause-printed c =
    PushesInRoom-then (Ok _) c.in_ok-push_ace.ensures.printed (PushesInRoom-put (newline ∷ []) c.push_ace.new.out c.push.new.self c.in_ok-push.ensures.items c.push.ensures.capacity)

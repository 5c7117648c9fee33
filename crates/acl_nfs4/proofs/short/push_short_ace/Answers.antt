use Rattle.std.proofs.Common.{◌++◌, ◌∷◌, [], Err, append_assoc}
use Rattle.std.proofs.lemmas.Result.{err_from_is_err_and}
use Rattle.acl_names.specs.Bytes.{colon}
use Rattle.acl_names.specs.Letters.{letters_text}
use Rattle.acl_names.proofs.Pushed.{PushesInRoom-as, PushesInRoom-put, PushesInRoom-then}
use Rattle.acl_nfs4.specs.Letters.{mask_table}
use Rattle.acl_nfs4.specs.PrintedText.{front_text, short_who}
use Rattle.acl_nfs4.proofs.PrintedFronts.{PushesInRoom-front, fields_behind, mask_behind}
use Rattle.acl_nfs4.proofs.short.push_short_ace.Goals as goal

pub returns-in_err-push_front-clause-printed : goal.returns-in_err-push_front-clause-printed
returns-in_err-push_front-clause-printed c =
    let p = err_from_is_err_and c.from_residual.result c.from_residual.ensures.1 in
    let ace = c.args.ace.now in
    rw p.1 (PushesInRoom-front (front_text ace) _ (fields_behind (short_who ace.who) ace) c.in_err-push_front.ensures)

pub returns-in_err-push_short_who-clause-printed : goal.returns-in_err-push_short_who-clause-printed
returns-in_err-push_short_who-clause-printed c =
    let p = err_from_is_err_and c.from_residual-in_err-push_short_who.result c.from_residual-in_err-push_short_who.ensures.1 in
    let ace = c.args.ace.now in
    rw p.1 (PushesInRoom-front (front_text ace ++ short_who c.who.result) (colon ∷ letters_text mask_table ace.mask) (rw c.who.ensures (mask_behind (short_who ace.who) ace))
    (PushesInRoom-then (Err _) c.in_ok-push_front.ensures c.in_err-push_short_who.ensures.printed))

pub returns-clause-printed : goal.returns-clause-printed
returns-clause-printed c =
    let who = PushesInRoom-then _ c.in_ok-push_front.ensures c.in_ok-push_short_who.ensures.printed in
    let colon_put = PushesInRoom-put (colon ∷ []) c.push_short_who.new.out c.push.new.self c.in_ok-push.ensures.items c.push.ensures.capacity in
    PushesInRoom-as (rw (c.who.ensures, c.mask.ensures.value) (simp append_assoc)) (PushesInRoom-then c.push_mask.result (PushesInRoom-then _ who colon_put) c.push_mask.ensures)

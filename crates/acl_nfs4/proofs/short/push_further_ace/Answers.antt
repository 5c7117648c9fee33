use Rattle.std.proofs.Common.{◌∷◌, []}
use Rattle.acl_names.specs.Bytes.{comma}
use Rattle.acl_names.proofs.Pushed.{PushesInRoom-put, PushesInRoom-then}
use Rattle.acl_nfs4.proofs.short.push_further_ace.Goals as goal

pub returns-clause-printed : goal.returns-clause-printed
returns-clause-printed c =
    PushesInRoom-then c.push_short_ace.result (PushesInRoom-put (comma ∷ []) c.args.out.now c.push.new.self c.in_ok-push.ensures.items c.push.ensures.capacity) c.push_short_ace.ensures.printed

use Rattle.std.proofs.Common.{◌∷◌, []}
use Rattle.acl_names.specs.Bytes.{colon}
use Rattle.acl_names.proofs.Pushed.{PushesInRoom-put, PushesInRoom-then}
use Rattle.acl_forms.proofs.printing.push_colon_and_perms.Goals as goal

pub returns : goal.returns
returns c = PushesInRoom-then c.push_perms.result (PushesInRoom-put (colon ∷ []) c.args.out.now c.push.new.self c.in_ok-push.ensures.items c.push.ensures.capacity) c.push_perms.ensures

use Rattle.std.proofs.Common.{◌≡◌, [], map, take}
use Rattle.acl_names.specs.Directory.{as_requester}
use Rattle.acl_names.proofs.directory.requesters.Given as goal

abbrev pub invariant-loop-user : goal.invariant-loop-user
invariant-loop-user l = l.requesters.items ≡ map (as_requester (record { domain = []; users = []; groups = l.groups })) (take l.user-index l.users)

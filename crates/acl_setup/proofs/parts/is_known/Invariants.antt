use Rattle.std.proofs.Common.{◌≡◌, drop}
use Rattle.acl_setup.specs.PartsKeys.{has_name}
use Rattle.acl_setup.proofs.parts.is_known.Given as goal

-- none so far has the name
abbrev pub invariant-loop-group : goal.invariant-loop-group
invariant-loop-group l = has_name (drop l.group-index l.groups) l.name ≡ has_name l.groups l.name

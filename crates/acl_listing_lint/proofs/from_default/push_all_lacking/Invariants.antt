use Rattle.std.proofs.Common.{◌≡◌, ◌++◌, take}
use Rattle.std.specs.List.{flat_map}
use Rattle.acl_listing_lint.specs.FromDefault.{lacks_text}
use Rattle.acl_listing_lint.proofs.from_default.push_all_lacking.Given as goal

-- the lines of the entries so far
abbrev pub invariant-loop-entry : goal.invariant-loop-entry
invariant-loop-entry l = l.out.items ≡ l.fn.out.items ++ flat_map (lacks_text l.name l.line l.access) (take l.entry-index l.created)

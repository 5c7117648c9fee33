use Rattle.std.proofs.Common.{◌≡◌, ◌++◌, take}
use Rattle.acl_listing_lint.proofs.aces.append.Given as goal

-- the entries so far stand behind the list
abbrev pub invariant-loop-ace : goal.invariant-loop-ace
invariant-loop-ace l = l.acl ≡ l.fn.acl ++ take l.ace-index l.more

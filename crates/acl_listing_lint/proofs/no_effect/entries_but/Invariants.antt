use Rattle.std.proofs.Common.{◌≡◌, take}
use Rattle.acl_listing_lint.specs.Effects.{but_entry}
use Rattle.acl_listing_lint.proofs.no_effect.entries_but.Given as goal

-- those so far, but for the one to leave out
abbrev pub invariant-loop-entry : goal.invariant-loop-entry
invariant-loop-entry l = l.kept ≡ but_entry l.left.tag (take l.entry-index l.entries)

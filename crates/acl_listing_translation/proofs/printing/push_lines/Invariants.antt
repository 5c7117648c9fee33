use Rattle.std.proofs.Common.{◌≡◌, ◌++◌, take}
use Rattle.acl_listings.specs.Nfs4Block.{aces_lines}
use Rattle.acl_listing_translation.specs.Translated.{entry_in}
use Rattle.acl_listing_translation.proofs.printing.push_lines.Given as goal

-- what was put is the entries so far
abbrev pub invariant-loop-ace : goal.invariant-loop-ace
invariant-loop-ace l = l.out.items ≡ l.fn.out.items ++ aces_lines (entry_in l.form) (take l.ace-index l.aces)

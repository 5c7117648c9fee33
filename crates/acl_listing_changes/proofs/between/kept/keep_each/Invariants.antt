use Rattle.std.proofs.Common.{map}
use Rattle.acl_reports.specs.Seen.{Splits}
use Rattle.acl_listing_changes.specs.Kept.{block_of}
use Rattle.acl_listing_changes.proofs.between.kept.keep_each.Given as goal

-- the blocks that were to come are those that are kept and those that still are
abbrev pub invariant-loop : goal.invariant-loop
invariant-loop g l = Splits l.initial.blocks.coming (map block_of l.kept.items) l.blocks.coming

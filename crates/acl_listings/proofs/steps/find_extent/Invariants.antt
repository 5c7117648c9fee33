use Rattle.std.specs.Io.KnownBytes.{Keeps}
use Rattle.acl_listings.specs.Extent.{BeginsLine}
use Rattle.acl_listings.specs.Source.{bytes_to_come}
use Rattle.acl_listings.proofs.steps.find_extent.Given as goal

-- nothing is taken
abbrev pub invariant-loop : goal.invariant-loop
invariant-loop g l = record {
  kept : Keeps (bytes_to_come l.initial.source) (bytes_to_come l.source);
  begins : BeginsLine l.source.shown;
}

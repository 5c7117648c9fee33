use Rattle.std.specs.Io.KnownBytes.{Keeps}
use Rattle.acl_listings.proofs.window.read_once.Given as goal

-- interrupted reads gave nothing
abbrev pub invariant-loop : goal.invariant-loop
invariant-loop g l = record {
  kept : Keeps (g.R.Read.remaining l.initial.reader) (g.R.Read.remaining l.reader);
}

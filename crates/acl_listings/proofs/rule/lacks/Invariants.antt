use Rattle.std.proofs.Common.{◌≡◌, drop}
use Rattle.acl_listings.specs.Rules.{lacks}
use Rattle.acl_listings.proofs.rule.lacks.Given as goal

-- no entry so far has the tag
abbrev pub invariant-loop-entry : goal.invariant-loop-entry
invariant-loop-entry l = lacks l.tag (drop l.entry-index l.entries) ≡ lacks l.tag l.entries

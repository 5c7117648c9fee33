use Rattle.std.proofs.Common.{reverse, take}
use Rattle.acl_listing_queries.specs.WhySteps.{AreReported, asked_by, readings_of}
use Rattle.acl_listing_queries.proofs.why.folders.report_folders.Given as goal

-- the folders so far are reported
abbrev pub invariant-loop-text : goal.invariant-loop-text
invariant-loop-text l = AreReported (asked_by l.question) (reverse (readings_of (asked_by l.question).names (take l.text-index l.texts))) l.folders

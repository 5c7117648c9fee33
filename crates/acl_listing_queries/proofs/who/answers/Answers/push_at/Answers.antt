use Rattle.std.proofs.Common.{rules, ◌≡◌, ◌∙◌, List, ℕ, Some, subst, sym}
use Rattle.acl_access.specs.Paths.{printed_path}
use Rattle.acl_reports.specs.Files.{file_of}
use Rattle.acl_reports.specs.Reporting.{IsPart}
use Rattle.acl_listing_queries.specs.WhoPart.{part_of}
use Rattle.acl_listing_queries.specs.WhoSteps.{AreAnswersOf, asking_of, kept_at, question_by}
use Rattle.acl_listing_queries.proofs.who.answers.Answers.push_at.Goals as goal

pub returns-in_ok-printed-in-Some-clause-reported : goal.returns-in_ok-printed-in-Some-clause-reported
returns-in_ok-printed-in-Some-clause-reported c = λ file sticky way at inside.
    let users = c.args.self.now.users in
    let found : Some c.in-Some.kept.now ≡ kept_at c.args.self.now.kept.items c.args.place = search rules in
    let there : Some c.in-Some.kept.now ≡ Some at.kept = found ∙ at.there in
    let kept : c.in-Some.kept.now ≡ at.kept = cc in
    let printed : c.bytes.result.now ≡ printed_path c.args.path.now = c.bytes.ensures ∙ c.in_ok-printed-in-Some.ensures in
    let are : AreAnswersOf users file c.in-Some.kept.now = subst (AreAnswersOf users file) (sym kept) at.are in
    subst (λ (path : List ℕ). IsPart (part_of (asking_of users).persons (question_by users) sticky way path (file_of users.rules file)) c.push.result c.args.out.now.items c.push.new.out.items) printed
    (c.push.ensures file sticky way are inside)

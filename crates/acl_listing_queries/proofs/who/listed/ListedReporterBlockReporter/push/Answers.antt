use Rattle.std.proofs.Common.{rules, ◌≡◌, ◌∙◌, ℕ, List, [], None, Ok, Some, ap, map, subst, sym}
use Rattle.acl_access.specs.Paths.{printed_path}
use Rattle.acl_access.specs.Reach.{reaches}
use Rattle.acl_listings.specs.Block.{file_by}
use Rattle.acl_listings.proofs.PathLemmas.{path_of-file}
use Rattle.acl_reports.specs.Files.{file_of}
use Rattle.acl_reports.specs.Reporting.{IsPart}
use Rattle.acl_listing_queries.specs.Readings.{reading_of}
use Rattle.acl_listing_queries.specs.Ways.{is_sticky, way_of}
use Rattle.acl_listing_queries.specs.WhoPart.{part_by, part_of, way_for}
use Rattle.acl_listing_queries.specs.WhoSteps.{IsInside, asking_of, names_by, question_by, whos_of}
use Rattle.acl_listing_queries.specs.declared.who.answers.Users.{Users}
use Rattle.acl_listing_queries.specs.declared.who.way.Inside.{Inside}
use Rattle.acl_listing_queries.proofs.InsideLemmas.{no_folder}
use Rattle.acl_listing_queries.proofs.who.listed.ListedReporterBlockReporter.push.Goals as goal

pub returns-clause-part : goal.returns-clause-part
returns-clause-part c = λ earlier stands.
    let users : Users = c.args.self.now.answers.users in
    let asking = asking_of users in
    let text = c.args.text.now in
    let found = c.in_ok-place.ensures.found stands.right in
    let file = found.0 in
    let now : c.find.new.self.users ≡ users = c.in_ok-place.ensures.users in
    let reads : file_by (names_by c.find.new.self.users) text ≡ Ok file = ap (λ (users : Users). file_by (names_by users) text) now ∙ found.1 in
    let marks : c.as_slice.result.now ≡ map (reaches []) (whos_of c.find.new.self.users) =
    c.as_slice.ensures.value ∙ stands.everyone ∙ ap (λ (users : Users). map (reaches []) (whos_of users)) (sym now) in
    let before = map (reading_of asking.names) earlier in
    let here = reading_of asking.names text in
    let sticky = is_sticky (way_of before here) in
    let lies : Inside = record { reach = c.as_slice.result; folder = None } in
    let inside : IsInside c.find.new.self.users sticky [] lies = record { reach = marks; folder = no_folder (question_by c.find.new.self.users) (whos_of c.find.new.self.users) sticky } in
    let same : Some c.in-Some.path.now ≡ Some file.path = search (rules, path_of-file (names_by users) text file found.1) in
    let shown : c.in-Some.path.now ≡ file.path = cc in
    let reported = subst (λ (users : Users). IsPart (part_of (asking_of users).persons (question_by users) sticky [] (printed_path file.path) (file_of users.rules file)) c.push_at.result c.args.out.now.items c.push_at.new.out.items) now
    (subst (λ (path : List ℕ). IsPart (part_of (asking_of c.find.new.self.users).persons (question_by c.find.new.self.users) sticky [] (printed_path path) (file_of c.find.new.self.users.rules file)) c.push_at.result c.args.out.now.items c.push_at.new.out.items) shown
    (c.push_at.ensures.reported file sticky [] found.2 inside)) in
    subst (λ b. IsPart (part_by asking sticky (file_by asking.names text) (way_for b before here)) c.push_at.result c.args.out.now.items c.push_at.new.out.items) (sym stands.reach)
    (subst (λ said. IsPart (part_by asking sticky said (Some [])) c.push_at.result c.args.out.now.items c.push_at.new.out.items) (sym found.1) reported)

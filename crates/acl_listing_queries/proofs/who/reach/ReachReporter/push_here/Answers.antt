use Rattle.std.proofs.Common.{rules, ◌≡◌, ◌∙◌, ℕ, List, Some, None, ap, cond, false, refl, subst, sym, true}
use Rattle.acl_access.specs.Paths.{printed_path}
use Rattle.acl_listings.proofs.PathLemmas.{path_of-file}
use Rattle.acl_reports.specs.Files.{file_of, files_of}
use Rattle.acl_reports.specs.Reporting.{IsPart}
use Rattle.acl_listing_queries.specs.Readings.{reading_of}
use Rattle.acl_listing_queries.specs.Ways.{chain_to, is_sticky}
use Rattle.acl_listing_queries.specs.WhoPart.{part_of, part_on}
use Rattle.acl_listing_queries.specs.WhoSteps.{AreFolders, IsInsideOf, asking_of, names_by, question_by}
use Rattle.acl_listing_queries.specs.declared.who.way.Folder.{Folder}
use Rattle.acl_listing_queries.proofs.WhyWayLemmas.{none_either}
use Rattle.acl_listing_queries.proofs.who.reach.ReachReporter.push_here.Goals as goal

pub returns-then-self-clause-reported : goal.returns-then-self-clause-reported
returns-then-self-clause-reported c = λ text way begins file come apart path reads at.
    let users = c.args.self.now.answers.users in
    let here = reading_of (names_by users) text in
    (ap (part_on (asking_of users) (is_sticky way) file) (none_either begins (chain_to way here) (come.lost c.if-self.true here)), refl)

pub returns-then-not-apart-clause-reported : goal.returns-then-not-apart-clause-reported
returns-then-not-apart-clause-reported c = λ text way begins file come apart path reads at.
    let users = c.args.self.now.answers.users in
    let here = reading_of (names_by users) text in
    let not_apart : c.args.apart ≡ false = search rules in
    let not_begun : begins ≡ false = sym (apart c.if-self.false) ∙ not_apart in
    (ap (part_on (asking_of users) (is_sticky way) file) (ap (λ b. cond b (chain_to way here) None) not_begun), refl)

pub returns-in-Some-clause-reported : goal.returns-in-Some-clause-reported
returns-in-Some-clause-reported c = λ text way begins file come apart path reads at.
    let users = c.args.self.now.answers.users in
    let here = reading_of (names_by users) text in
    let inside : IsInsideOf users (is_sticky way) (chain_to way here) c.inside_of.result =
    c.inside_of.ensures users way here path (c.as_slice-2.ensures.value ∙ come.everyone)
    (subst (λ (folders : List Folder). AreFolders users folders way) (sym c.as_slice.ensures.value) (come.folders c.if-self.false)) in
    let is : c.inside_of.result ≡ Some c.in-Some.inside = search rules in
    let known = subst (IsInsideOf users (is_sticky way) (chain_to way here)) is inside in
    let is_apart : c.args.apart ≡ true = search rules in
    let begun : begins ≡ true = sym (apart c.if-self.false) ∙ is_apart in
    let same : Some c.args.path.now ≡ Some file.path = sym path ∙ path_of-file (names_by users) text file reads in
    let shown : c.args.path.now ≡ file.path = cc in
    subst (λ found. IsPart (part_on (asking_of users) (is_sticky way) file found) c.push_at.result c.args.out.now.items c.push_at.new.out.items)
    (sym (ap (λ b. cond b (chain_to way here) None) begun ∙ known.1))
    (subst (λ (path : List ℕ). IsPart (part_of (asking_of users).persons (question_by users) (is_sticky way) (files_of users.rules known.0) (printed_path path) (file_of users.rules file)) c.push_at.result c.args.out.now.items c.push_at.new.out.items) shown
    (c.push_at.ensures.reported file (is_sticky way) (files_of users.rules known.0) at known.2))

pub returns-in-None-clause-reported : goal.returns-in-None-clause-reported
returns-in-None-clause-reported c = λ text way begins file come apart path reads at.
    let users = c.args.self.now.answers.users in
    let here = reading_of (names_by users) text in
    let inside : IsInsideOf users (is_sticky way) (chain_to way here) c.inside_of.result =
    c.inside_of.ensures users way here path (c.as_slice-2.ensures.value ∙ come.everyone)
    (subst (λ (folders : List Folder). AreFolders users folders way) (sym c.as_slice.ensures.value) (come.folders c.if-self.false)) in
    let is : c.inside_of.result ≡ None = search rules in
    (ap (part_on (asking_of users) (is_sticky way) file) (none_either begins (chain_to way here) (subst (IsInsideOf users (is_sticky way) (chain_to way here)) is inside)), refl)

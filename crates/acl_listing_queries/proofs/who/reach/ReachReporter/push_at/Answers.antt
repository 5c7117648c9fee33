use Rattle.std.proofs.Common.{◌≡◌, ◌∙◌, ◌++◌, ℕ, [], ◌∷◌, Err, Ok, Some, ap, false, is_some, subst, sym}
use Rattle.acl_listings.specs.Block.{file_by}
use Rattle.acl_listings.specs.Faults.{IsFaultOf}
use Rattle.acl_listings.specs.declared.fault.FileFault.{FileFault}
use Rattle.acl_reports.specs.Reporting.{UnlessMemory}
use Rattle.acl_listing_queries.specs.Readings.{reading_of}
use Rattle.acl_listing_queries.specs.RootSteps.{IsBegun}
use Rattle.acl_listing_queries.specs.Ways.{begins_apart, way_of}
use Rattle.acl_listing_queries.specs.WhoSteps.{AreRight, IsCome, IsPlacedAt, names_by, readings_of, stranger_by}
use Rattle.acl_listing_queries.specs.declared.beginning.Beginning.{Beginning}
use Rattle.acl_listing_queries.specs.declared.who.answers.Answers.{Answers}
use Rattle.acl_listing_queries.specs.declared.who.answers.Users.{Users}
use Rattle.acl_listing_queries.specs.declared.who.reach.ReachReporter.{ReachReporter}
use Rattle.acl_listing_queries.proofs.ReachSteps.{come_here, come_on, known_part, on_behind, unless_memory}
use Rattle.acl_listing_queries.proofs.who.reach.ReachReporter.push_at.Goals as goal

pub returns-in_ok-stand_at-in-Ok-clause-reported : goal.returns-in_ok-stand_at-in-Ok-clause-reported
returns-in_ok-stand_at-in-Ok-clause-reported c = λ earlier on.
    let path = c.requires.path in
    let was = c.args.self.now in
    let mid = c.come_to-2.new.self in
    let same = c.in_ok-come_to.ensures in
    let text = c.args.text.now in
    let way = way_of (readings_of was.answers.users earlier) (reading_of (names_by was.answers.users) text) in
    let come : IsCome mid way = come_here was mid earlier text c.args.path.now same.answers same.everyone same.lost same.folders on path in
    let found = c.in-Ok.ensures.found come.right in
    let file = found.0 in
    let users = c.in-Ok.ensures.users in
    let mid_users : mid.answers.users ≡ was.answers.users = ap (λ (answers : Answers). answers.users) same.answers in
    let read = come_on mid c.find.new.self way users (c.in-Ok.ensures.right come.right) come in
    let reads : file_by (names_by c.find.new.self.users) text ≡ Ok file = ap (λ (users : Users). file_by (names_by users) text) users ∙ found.1 in
    let readings = readings_of was.answers.users earlier in
    let here = reading_of (names_by was.answers.users) text in
    let apart : mid.lost ≡ false → c.in_ok-apart.apart ≡ begins_apart readings here =
    λ found. c.in_ok-apart.ensures.apart readings here (on.begun (sym same.lost ∙ found)) (sym on.lost ∙ sym same.lost ∙ found) path in
    known_part was.answers.users c.find.new.self.users earlier text file c.push_here-reported.result c.args.out.now.items c.push_here-reported.new.out.items (users ∙ mid_users) on.reach
    (ap (λ (users : Users). file_by (names_by users) text) (sym mid_users) ∙ found.1)
    (c.push_here-reported.ensures.reported text way (begins_apart readings here) file read apart path reads found.2)

pub returns-in_ok-stand_at-in-Ok-clause-stands : goal.returns-in_ok-stand_at-in-Ok-clause-stands
returns-in_ok-stand_at-in-Ok-clause-stands c = λ earlier on.
    let path = c.requires.path in
    let was = c.args.self.now in
    let mid = c.come_to-2.new.self in
    let same = c.in_ok-come_to.ensures in
    let text = c.args.text.now in
    let way = way_of (readings_of was.answers.users earlier) (reading_of (names_by was.answers.users) text) in
    let come : IsCome mid way = come_here was mid earlier text c.args.path.now same.answers same.everyone same.lost same.folders on path in
    let found = c.in-Ok.ensures.found come.right in
    let users = c.in-Ok.ensures.users in
    let mid_users : mid.answers.users ≡ was.answers.users = ap (λ (answers : Answers). answers.users) same.answers in
    let read : ReachReporter = record mid { answers = c.find.new.self } in
    let read_come = come_on mid c.find.new.self way users (c.in-Ok.ensures.right come.right) come in
    let reads : file_by (names_by c.find.new.self.users) text ≡ Ok found.0 = ap (λ (users : Users). file_by (names_by users) text) users ∙ found.1 in
    let before = c.in_ok-stand_at-in-Ok.ensures.before in
    let placed : IsPlacedAt c.find.new.self before.0.place (reading_of (names_by c.find.new.self.users) text) =
    subst (λ place. IsPlacedAt c.find.new.self place (reading_of (names_by c.find.new.self.users) text)) (sym before.2) (found.0, reads, found.2) in
    let readings = readings_of was.answers.users earlier in
    let begun : mid.lost ≡ false → IsBegun mid.beginning (readings ++ reading_of (names_by was.answers.users) text ∷ []) =
    λ found. subst (λ (beginning : Beginning). IsBegun beginning (readings ++ reading_of (names_by was.answers.users) text ∷ [])) (sym same.beginning)
    (c.in_ok-apart.ensures.begun readings (reading_of (names_by was.answers.users) text) (on.begun (sym same.lost ∙ found)) (sym on.lost ∙ sym same.lost ∙ found) path) in
    unless_memory c.push_here-reported.result _
    (on_behind was read c.stand_at.new.self earlier text c.args.path.now before.0 on same.lost (users ∙ mid_users) read_come path before.1 placed
    (before.3 ∙ ap (λ (state : ReachReporter). record state { before = Some before.0 }) c.push_here-reported.ensures.same) begun)

pub returns-in_ok-stand_at-in-Err-Block-clause-stands : goal.returns-in_ok-stand_at-in-Err-Block-clause-stands
returns-in_ok-stand_at-in-Err-Block-clause-stands c = λ earlier on.
    let path = c.requires.path in
    let was = c.args.self.now in
    let mid = c.come_to-2.new.self in
    let same = c.in_ok-come_to.ensures in
    let text = c.args.text.now in
    let way = way_of (readings_of was.answers.users earlier) (reading_of (names_by was.answers.users) text) in
    let come : IsCome mid way = come_here was mid earlier text c.args.path.now same.answers same.everyone same.lost same.folders on path in
    let users = c.in-Err-Block.ensures.users in
    let mid_users : mid.answers.users ≡ was.answers.users = ap (λ (answers : Answers). answers.users) same.answers in
    let read : ReachReporter = record mid { answers = c.find.new.self } in
    let read_come = come_on mid c.find.new.self way users (c.in-Err-Block.ensures.right come.right) come in
    let refused : file_by (names_by mid.answers.users) text ≡ Err c.in-Err-Block.fault =
    subst (λ (failed : FileFault). IsFaultOf (file_by (names_by mid.answers.users) text) failed) c.in-Err-Block.field-0-is c.in-Err-Block.ensures.refused in
    let reads : file_by (names_by c.find.new.self.users) text ≡ Err c.in-Err-Block.fault = ap (λ (users : Users). file_by (names_by users) text) users ∙ refused in
    let before = c.in_ok-stand_at-in-Err-Block.ensures.before in
    let placed : IsPlacedAt c.find.new.self before.0.place (reading_of (names_by c.find.new.self.users) text) =
    subst (λ place. IsPlacedAt c.find.new.self place (reading_of (names_by c.find.new.self.users) text)) (sym before.2) (c.in-Err-Block.fault, reads) in
    let readings = readings_of was.answers.users earlier in
    let begun : mid.lost ≡ false → IsBegun mid.beginning (readings ++ reading_of (names_by was.answers.users) text ∷ []) =
    λ found. subst (λ (beginning : Beginning). IsBegun beginning (readings ++ reading_of (names_by was.answers.users) text ∷ [])) (sym same.beginning)
    (c.in_ok-apart.ensures.begun readings (reading_of (names_by was.answers.users) text) (on.begun (sym same.lost ∙ found)) (sym on.lost ∙ sym same.lost ∙ found) path) in
    on_behind was read c.stand_at-in-Err-Block.new.self earlier text c.args.path.now before.0 on same.lost (users ∙ mid_users) read_come path before.1 placed before.3 begun

pub returns-in_ok-stand_at-in-Ok-clause-found : goal.returns-in_ok-stand_at-in-Ok-clause-found
returns-in_ok-stand_at-in-Ok-clause-found c = λ earlier on.
    let same = c.in_ok-come_to.ensures.answers in
    let right : AreRight c.come_to-2.new.self.answers = subst AreRight (sym same) on.right in
    unless_memory c.push_here-reported.result _
    (ap (λ (answers : Answers). answers.found) c.in_ok-stand_at-in-Ok.ensures.answers
    ∙ ap (λ (state : ReachReporter). state.answers.found) c.push_here-reported.ensures.same
    ∙ c.in-Ok.ensures.stranger right
    ∙ ap (λ (answers : Answers). is_some (stranger_by answers.users c.args.text.now)) same)

pub returns-in_ok-stand_at-in-Err-Block-clause-found : goal.returns-in_ok-stand_at-in-Err-Block-clause-found
returns-in_ok-stand_at-in-Err-Block-clause-found c = λ earlier on.
    let same = c.in_ok-come_to.ensures.answers in
    let mid = c.come_to-2.new.self in
    let right : AreRight mid.answers = subst AreRight (sym same) on.right in
    let found = subst (λ (failed : FileFault). UnlessMemory {A = ℕ} (Err failed) (c.find.new.self.found ≡ is_some (stranger_by mid.answers.users c.args.text.now))) c.in-Err-Block.field-0-is
    (c.in-Err-Block.ensures.stranger right) in
    ap (λ (answers : Answers). answers.found) c.in_ok-stand_at-in-Err-Block.ensures.answers
    ∙ found
    ∙ ap (λ (answers : Answers). is_some (stranger_by answers.users c.args.text.now)) same

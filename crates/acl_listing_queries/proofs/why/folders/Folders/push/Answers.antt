use Rattle.std.proofs.Common.{rules, ◌≡◌, ◌∙◌, ◌++◌, ◌&&◌, ◌∷◌, ℕ, true, List, Ok, Some, ap, codes, refl, reverse, sym}
use Rattle.std.specs.List.{flat_map}
use Rattle.acl_listings.specs.Block.{FileValue, file_by, path_of}
use Rattle.acl_listings.specs.Views.{view_file}
use Rattle.acl_bridge.specs.Files.{File, may}
use Rattle.acl_reports.specs.Files.{file_of}
use Rattle.acl_listing_queries.specs.Readings.{Reading, reading_of}
use Rattle.acl_listing_queries.specs.Ways.{folder_of}
use Rattle.acl_listing_queries.specs.WhySteps.{asked_by, is_held}
use Rattle.acl_listing_queries.specs.WhyReasons.{decision_text}
use Rattle.acl_listing_queries.specs.WhyText.{WhyAsking, folder_text}
use Rattle.acl_listing_queries.proofs.WhyWayLemmas.{folders-more, known-more}
use Rattle.acl_listing_queries.proofs.why.folders.Folders.push.Goals.{then-granted, else-granted}
use Rattle.acl_listing_queries.proofs.why.folders.Folders.push.Goals as goal

pub returns-clause-reported : goal.returns-clause-reported
returns-clause-reported c = λ way was.
    let asking : WhyAsking = asked_by c.args.question.now in
    let text : List ℕ = c.args.text.now in
    let next : Reading = reading_of asking.names text in
    let file : FileValue = view_file c.in-Ok.file in
    let reads : file_by asking.names text ≡ Ok file = search rules in
    let acl : File = file_of asking.rules file in
    let folder_is : folder_of next ≡ Some file = ap (λ said. folder_of (record { path = path_of text; file = said })) reads in
    let held : is_held way next.path ≡ true = ap (is_held way) (sym c.path_of.ensures) ∙ sym (c.are_above.ensures asking.names way was.last) ∙ search rules in
    let granted : c.in_ok-granted.granted ≡ may acl asking.who 1 = search rules in
    let both : c.if-granted.self ≡ (c.in_ok-granted.granted && c.args.self.now.reach) =
    elim c.if-granted.branch [
      | then-granted w ↦ w.self-is ∙ ap (λ b. b && c.args.self.now.reach) (sym w.if-granted.true)
      | else-granted w ↦ w.self-is ∙ w.if-granted.false ∙ ap (λ b. b && c.args.self.now.reach) (sym w.if-granted.false)
    ] in
    let reported : c.push_decision.new.out.items ≡ c.args.self.now.text.items ++ decision_text (codes "folder") file.path acl asking.who 1 = search rules in
    record {
      files = file ∷ was.files;
      known = known-more way next file was.files was.known held folder_is;
      reach = both ∙ ap (λ b. b && c.args.self.now.reach) granted ∙ ap (λ b. may acl asking.who 1 && b) was.reach;
      text = reported ∙ ap (λ (front : List ℕ). front ++ decision_text (codes "folder") file.path acl asking.who 1) was.text
          ∙ sym (folders-more asking.rules asking.who way next ∙ ap (λ said. flat_map (folder_text asking.rules asking.who) (reverse way) ++ folder_text asking.rules asking.who (record { path = path_of text; file = said })) reads);
      last = (refl, refl);
    }

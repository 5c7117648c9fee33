use Rattle.std.proofs.Common.{◌≡◌, ◌∙◌, ◌++◌, List, ℕ, OnOk, ap, subst}
use Rattle.acl_access.specs.Paths.{printed_path}
use Rattle.std.proofs.lemmas.Result.{on_ok_weaker}
use Rattle.acl_bridge.specs.Files.{File, file_with, view_list}
use Rattle.acl_listings.specs.Views.{view_file}
use Rattle.acl_reports.specs.Files.{file_of}
use Rattle.acl_listing_changes.specs.ImpactSteps.{asking_by}
use Rattle.acl_listing_changes.specs.WrittenChanges.{changed_text}
use Rattle.acl_listing_changes.specs.Impacting.{Concern, Reports, ReportsImpact}
use Rattle.acl_listing_changes.proofs.ImpactLemmas.{change_reported}
use Rattle.acl_listing_changes.proofs.impact.reporter.ImpactReporter.push_files.Goals as goal

pub returns : goal.returns
returns c =
    let old : File = file_with c.in_ok-old_owners.old_owners (view_list c.as_ref.result) in
    let new : File = file_with c.in_ok-new_owners.new_owners (view_list c.as_ref-2.result) in
    let old_is : old ≡ file_of c.args.self.now.rules (view_file c.args.before) = ap (file_with c.in_ok-old_owners.old_owners) c.as_ref.ensures ∙ c.in_ok-old_owners.ensures in
    let new_is : new ≡ file_of c.args.self.now.rules (view_file c.args.after) = ap (file_with c.in_ok-new_owners.new_owners) c.as_ref-2.ensures ∙ c.in_ok-new_owners.ensures in
    let path : c.bytes.result.now ≡ printed_path c.args.after.path.now = c.bytes.ensures ∙ c.in_ok-path.ensures in
    let second : c.bytes-2.result.now ≡ printed_path c.args.after.path.now = c.bytes-2.ensures ∙ c.in_ok-path.ensures in
    let reported = subst (λ (path : List ℕ). Reports (ReportsImpact (asking_by c.args.self.now).concern old new path) c.args.out.now.items c.push_impact.new.out.items) path
    (subst (λ (concern : Concern). Reports (ReportsImpact concern old new c.bytes.result.now) c.args.out.now.items c.push_impact.new.out.items)
    c.concerned.ensures c.in_ok-push_impact.ensures) in
    on_ok_weaker c.push_changed.result
    (change_reported (asking_by c.args.self.now) (view_file c.args.before) (view_file c.args.after) old new old_is new_is c.args.out.now.items
    c.push_impact.new.out.items c.push_changed.new.out.items reported c.changed_between-changed.result c.changed_between-changed.ensures)
    (subst (λ (path : List ℕ). OnOk c.push_changed.result (c.push_changed.new.out.items ≡ c.push_impact.new.out.items ++ changed_text c.args.self.now.written c.changed_between-changed.result path)) second c.push_changed.ensures)

use Rattle.std.proofs.Common.{rules, ◌≡◌, ◌∙◌, Some, subst, sym}
use Rattle.acl_listings.specs.Block.{file_by}
use Rattle.acl_listings.specs.Faults.{IsFaultOf}
use Rattle.acl_listings.specs.Views.{view_file}
use Rattle.acl_listings.specs.declared.fault.FileFault.TheVariants.{Block as FaultOf}
use Rattle.acl_people.specs.Host.{names_of_host}
use Rattle.acl_listing_changes.specs.ChangeSteps.{found_by}
use Rattle.acl_listing_changes.specs.ImpactSteps.{asking_by}
use Rattle.acl_listing_changes.specs.Impacting.{impacting}
use Rattle.acl_listing_changes.proofs.AlikeLemmas.{file_read, nothing_changed}
use Rattle.acl_listing_changes.proofs.ImpactLemmas.{changed_reported}
use Rattle.acl_listing_changes.proofs.StrangerLemmas.{known_found, unread_stranger}
use Rattle.acl_listing_changes.proofs.impact.reporter.ImpactReporterChangeReporter.push_changed.Goals as goal

pub returns-in-Some-clause-fault : goal.returns-in-Some-clause-fault
returns-in-Some-clause-fault c =
    let same : c.args.old.now ≡ c.args.text.now = search rules in
    let found : found_by c.args.known ≡ Some c.in-Some.found = search rules in
    let known = known_found (impacting (asking_by c.args.self.now)) c.args.old.now c.args.text.now c.args.known c.in-Some.found c.requires same found in
    c.in-Some.ensures.plain ∙ sym known.0

pub returns-in-Some-clause-strange : goal.returns-in-Some-clause-strange
returns-in-Some-clause-strange c =
    let same : c.args.old.now ≡ c.args.text.now = search rules in
    let found : found_by c.args.known ≡ Some c.in-Some.found = search rules in
    (known_found (impacting (asking_by c.args.self.now)) c.args.old.now c.args.text.now c.args.known c.in-Some.found c.requires same found).1

pub returns-in-Some-clause-reported : goal.returns-in-Some-clause-reported
returns-in-Some-clause-reported c =
    let asking = asking_by c.args.self.now in
    let same : c.args.old.now ≡ c.args.text.now = search rules in
    let found : found_by c.args.known ≡ Some c.in-Some.found = search rules in
    let known = known_found (impacting asking) c.args.old.now c.args.text.now c.args.known c.in-Some.found c.requires same found in
    let file = file_read (file_by asking.names c.args.text.now) known.0 in
    let reported = changed_reported asking c.args.text.now file.0 file.1 c.args.out.now.items c.args.out.now.items c.args._beside.now.items c.args.old.now
    (nothing_changed asking c.args.old.now c.args.text.now file.0 same file.1 c.args.out.now.items) in
    search (rules, reported, c.in-Some.ensures.plain)

pub returns-in_ok-push_old-in-Ok-clause-reported : goal.returns-in_ok-push_old-in-Ok-clause-reported
returns-in_ok-push_old-in-Ok-clause-reported c =
    changed_reported (asking_by c.args.self.now) c.args.text.now (view_file c.in-Ok.after) c.in-Ok.ensures.read c.args.out.now.items c.push_old.new.out.items c.args._beside.now.items
    c.args.old.now c.in_ok-push_old-in-Ok.ensures

pub returns-in-Err-Block-clause-strange : goal.returns-in-Err-Block-clause-strange
returns-in-Err-Block-clause-strange c =
    let host = c.args.self.now.host.now in
    let reading = file_by (names_of_host host) c.args.text.now in
    let refused : IsFaultOf reading (FaultOf c.in-Err-Block.fault) = subst (IsFaultOf reading) c.in-Err-Block.field-0-is c.in-Err-Block.ensures.refused in
    unread_stranger host c.args.text.now c.in-Err-Block.fault refused

use Rattle.std.proofs.Common.{subst}
use Rattle.std.proofs.lemmas.Result.{on_ok_weaker}
use Rattle.acl_listings.specs.Block.{file_by}
use Rattle.acl_listings.specs.Faults.{IsFaultOf}
use Rattle.acl_listings.specs.Views.{view_file}
use Rattle.acl_listings.specs.declared.fault.FileFault.TheVariants.{Block as FaultOf}
use Rattle.acl_listing_changes.specs.ImpactSteps.{asking_by}
use Rattle.acl_listing_changes.proofs.ImpactLemmas.{gone_reported, unread_gone}
use Rattle.acl_listing_changes.proofs.impact.reporter.ImpactReporterChangeReporter.push_gone.Goals as goal

pub returns-in-Ok : goal.returns-in-Ok
returns-in-Ok c =
    on_ok_weaker c.push_file.result
    (gone_reported (asking_by c.args.self.now) c.args.old.now (view_file c.in-Ok.file) c.in-Ok.ensures.read c.args.out.now.items c.push_file.new.out.items c.args._beside.now.items)
    c.push_file.ensures

pub returns-in-Err-Block : goal.returns-in-Err-Block
returns-in-Err-Block c =
    let asking = asking_by c.args.self.now in
    let refused : IsFaultOf (file_by asking.names c.args.old.now) (FaultOf c.in-Err-Block.field-0-0) =
    subst (IsFaultOf (file_by asking.names c.args.old.now)) c.in-Err-Block.field-0-is c.in-Err-Block.ensures.refused in
    unread_gone asking c.args.old.now c.in-Err-Block.field-0-0 refused c.args.out.now.items c.args._beside.now.items

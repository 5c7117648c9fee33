use Rattle.std.proofs.Common.{[], Result, OnOk, append-nil, refl, subst, sym}
use Rattle.acl_listings.specs.Block.{FileValue, file_by}
use Rattle.acl_listings.specs.Faults.{IsFaultOf}
use Rattle.acl_listings.specs.Views.{view_file}
use Rattle.acl_listings.specs.declared.fault.BlockFault.{BlockFault}
use Rattle.acl_listings.specs.declared.fault.FileFault.TheVariants.{Block as FaultOf}
use Rattle.acl_listing_changes.specs.Impacting.{Reports}
use Rattle.acl_listing_changes.specs.ImpactSteps.{ReportsRead, asking_by}
use Rattle.acl_listing_changes.proofs.impact.reporter.ImpactReporter.push_old.Goals as goal

pub returns-in-Ok : goal.returns-in-Ok
returns-in-Ok c =
    let asking = asking_by c.args.self.now in
    let after = view_file c.args.after in
    subst (λ (reading : Result FileValue BlockFault). OnOk c.push_files.result (Reports (ReportsRead asking reading after) c.args.out.now.items c.push_files.new.out.items)) (sym c.in-Ok.ensures.read)
    c.push_files.ensures

pub returns-in-Err-Block : goal.returns-in-Err-Block
returns-in-Err-Block c =
    let asking = asking_by c.args.self.now in
    let after = view_file c.args.after in
    let refused : IsFaultOf (file_by asking.names c.args.old.now) (FaultOf c.in-Err-Block.field-0-0) =
    subst (IsFaultOf (file_by asking.names c.args.old.now)) c.in-Err-Block.field-0-is c.in-Err-Block.ensures.refused in
    record {
      text = [];
      is = subst (λ (reading : Result FileValue BlockFault). ReportsRead asking reading after []) (sym refused) refl;
      out_is = sym (append-nil c.args.out.now.items);
    }

use Rattle.std.proofs.Common.{subst}
use Rattle.acl_listings.specs.Block.{file_by}
use Rattle.acl_listings.specs.Faults.{IsFaultOf}
use Rattle.acl_listings.specs.declared.fault.FileFault.TheVariants.{Block as FaultOf}
use Rattle.acl_people.specs.Host.{names_of_host}
use Rattle.acl_listing_changes.proofs.StrangerLemmas.{unread_stranger}
use Rattle.acl_listing_changes.proofs.impact.reporter.ImpactReporterChangeReporter.find.Goals as goal

pub returns-in-Err-Block-clause-strange : goal.returns-in-Err-Block-clause-strange
returns-in-Err-Block-clause-strange c =
    let host = c.args.self.now.host.now in
    let reading = file_by (names_of_host host) c.args.text.now in
    let refused : IsFaultOf reading (FaultOf c.in-Err-Block.fault) = subst (IsFaultOf reading) c.in-Err-Block.field-0-is c.in-Err-Block.ensures.refused in
    unread_stranger host c.args.text.now c.in-Err-Block.fault refused

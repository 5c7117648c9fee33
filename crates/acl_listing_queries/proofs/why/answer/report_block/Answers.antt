use Rattle.std.proofs.Common.{rules, ◌≡◌, ℕ, true, Err, IfErr, IfOk, List, Ok, Result, Some, Vec, subst, sym}
use Rattle.std.specs.declared.alloc.Global.{Global}
use Rattle.acl_listings.specs.Block.{FileValue, file_by, path_of}
use Rattle.acl_listings.specs.Faults.{IsFaultOf}
use Rattle.acl_listings.specs.Views.{view_file}
use Rattle.acl_listings.specs.declared.fault.BlockFault.{BlockFault}
use Rattle.acl_listings.specs.declared.fault.FileFault.{FileFault}
use Rattle.acl_listings.proofs.PathLemmas.{path_of-file}
use Rattle.acl_bridge.specs.Files.{File, file_with, view_list}
use Rattle.acl_reports.specs.Files.{file_of}
use Rattle.acl_listing_queries.specs.Readings.{Reading, reading_of}
use Rattle.acl_listing_queries.specs.Ways.{begins_apart, known_way, way_of}
use Rattle.acl_listing_queries.specs.WhySteps.{IsNearest, IsUnknown, IsWayReported, IsWayTo, asked_by}
use Rattle.acl_listing_queries.specs.WhyText.{WhyAsking, nearest, sought_part, why_part}
use Rattle.acl_listing_queries.specs.declared.why.folders.Folders.{Folders}
use Rattle.acl_listing_queries.proofs.WhyPartLemmas.{part_sought, part_unknown, way_to_it}
use Rattle.acl_listing_queries.proofs.why.answer.report_block.Goals as goal

pub returns-in_err-folders-clause-refused : goal.returns-in_err-folders-clause-refused
returns-in_err-folders-clause-refused c = λ path earlier is kept.
    let asking : WhyAsking = asked_by c.args.question.now in
    let text : List ℕ = c.args.text.now in
    let file : FileValue = view_file c.in_ok-file.file in
    let reads : file_by asking.names text ≡ Ok file = search rules in
    let here : Reading = reading_of asking.names text in
    let fault : FileFault = c.in_err-folders.field-0.0 in
    let same : c.from_residual-in_err-folders.result ≡ Err fault = search rules in
    let unknown : IsUnknown (known_way earlier here) fault =
    c.in_err-folders.ensures.refused earlier here (way_to_it asking earlier text file reads path c.args.way.now is kept) (path_of-file asking.names text file reads) in
    subst (λ (result : Result (Vec ℕ Global) FileFault). IfErr result (IsFaultOf (why_part asking earlier text))) (sym same) (part_unknown asking earlier text file reads fault unknown)

pub returns : goal.returns
returns c =
    let asking : WhyAsking = asked_by c.args.question.now in
    let text : List ℕ = c.args.text.now in
    let file : FileValue = view_file c.in_ok-file.file in
    let reads : file_by asking.names text ≡ Ok file = search rules in
    let folders : Folders = c.in_ok-folders.folders in
    let acl : File = file_with c.in_ok-owners.owners (view_list c.as_ref.result) in
    let acl_is : acl ≡ file_of asking.rules file = search rules in
    let sought : List Reading → Result (List ℕ) BlockFault = λ earlier.
    sought_part asking.rules asking.sought asking.who folders.reach folders.text.items (nearest (way_of earlier (reading_of asking.names text))) (record { path = file.path; file = acl }) in
    let known : (path : List ℕ) (earlier : List Reading) → path_of text ≡ Some path → IsWayTo asking.names path earlier c.args.way.now
    → IsNearest asking.names folders.last (way_of earlier (reading_of asking.names text)) × (why_part asking earlier text ≡ sought earlier) = λ path earlier is kept.
    let here : Reading = reading_of asking.names text in
    let to_it = way_to_it asking earlier text file reads path c.args.way.now is kept in
    let own = path_of-file asking.names text file reads in
    let at : IsWayReported asking (way_of earlier here) here folders = c.in_ok-folders.ensures.reported earlier here to_it own in
    let apart : begins_apart earlier here ≡ true = c.in_ok-folders.ensures.apart earlier here to_it own in
    (at.last, part_sought asking earlier text file reads at.files folders.reach folders.text.items acl apart at.known at.reach at.text acl_is) in
    record {
      reported = λ path earlier is kept.
          let (last, part) = known path earlier is kept in
          subst (λ part. IfOk c.report_sought.result (λ (said : Vec ℕ Global). part ≡ Ok said.items)) (sym part) (c.report_sought.ensures.reported (way_of earlier (reading_of asking.names text)) last);
      refused = λ path earlier is kept.
          let (last, part) = known path earlier is kept in
          subst (λ part. IfErr c.report_sought.result (IsFaultOf part)) (sym part) (c.report_sought.ensures.refused (way_of earlier (reading_of asking.names text)) last);
    }

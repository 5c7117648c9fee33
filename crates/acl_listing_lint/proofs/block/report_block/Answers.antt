use Rattle.std.proofs.Common.{◌≡◌, ◌∙◌, [], ap, Ok, Result, append-nil, refl, subst, sym}
use Rattle.std.proofs.lemmas.Result.{IfOk-weaker}
use Rattle.acl_listings.specs.Block.{FileValue, file_by}
use Rattle.acl_listings.specs.Listing.{Block}
use Rattle.acl_listings.specs.Views.{view_file}
use Rattle.acl_listings.specs.declared.fault.BlockFault.{BlockFault}
use Rattle.acl_people.specs.Host.{names_of_host}
use Rattle.acl_listing_lint.specs.Findings.{IsPartBy, LintAsking}
use Rattle.acl_listing_lint.specs.Seen.{seen_after}
use Rattle.acl_listing_lint.proofs.LintLemmas.{refused_block}
use Rattle.acl_listing_lint.proofs.block.report_block.Goals as goal

pub returns-in_ok-push_file-in-Ok-clause-reported : goal.returns-in_ok-push_file-in-Ok-clause-reported
returns-in_ok-push_file-in-Ok-clause-reported c =
    let asking : LintAsking = record { name = c.args.name.now; host = c.args.host.now } in
    let block : Block = record { line = c.args.line; text = c.args.text.now } in
    let seen = c.args.seen.now in
    let added = c.in_ok-push_file-in-Ok.ensures.found in
    let read : file_by (names_of_host c.args.host.now) c.args.text.now ≡ Ok (view_file c.in-Ok.file) = c.in-Ok.ensures.read in
    record {
      part = Ok added.text;
      part_is = subst (λ (read : Result FileValue BlockFault). IsPartBy asking seen block read (Ok added.text)) (sym read) (added.text, added.is, refl);
      seen_is = c.in_ok-push_file-in-Ok.ensures.seen ∙ ap (seen_after seen c.args.line) (sym read);
      is_reported = (added.out_is, ([], refl, sym (append-nil c.args.beside.now.items)), refl);
    }

pub returns-in-Err-clause-reported : goal.returns-in-Err-clause-reported
returns-in-Err-clause-reported c =
    let asking : LintAsking = record { name = c.args.name.now; host = c.args.host.now } in
    let block : Block = record { line = c.args.line; text = c.args.text.now } in
    IfOk-weaker c.push_refusal.result _ _
    (λ fault said. refused_block asking c.args.seen.now block c.in-Err.refused fault c.args.out.now.items c.args.beside.now.items c.push_refusal.new.beside.items c.in-Err.ensures.refused said)
    c.push_refusal.ensures.said

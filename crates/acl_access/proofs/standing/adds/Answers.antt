use Rattle.std.proofs.Common.{◌∙◌, ap, false, refl, sym, unwrap_or}
use Rattle.acl_nfs4.specs.Mask.{write_data}
use Rattle.acl_bridge.specs.Files.{file_with, view_list}
use Rattle.acl_access.specs.Deletes.{adds}
use Rattle.acl_access.proofs.standing.adds.Goals as goal

pub returns-in-Nfs4 : goal.returns-in-Nfs4
returns-in-Nfs4 c =
    c.unwrap_or.ensures ∙ ap (λ said. unwrap_or said false) (c.verdict.ensures write_data refl)
    ∙ ap (λ list. adds (file_with c.args.folder.now.owners (view_list list)) c.args.requester.now) (sym c.in-Nfs4.is)

use Rattle.std.proofs.Common.{rules, ◌≡◌, ◌∙◌, ap, sym}
use Rattle.acl_names.specs.Directory.{gid_of}
use Rattle.acl_names.specs.Ids.{id_of_written}
use Rattle.acl_names.specs.Steps.{or_fault}
use Rattle.acl_names.specs.Views.{view_written}
use Rattle.acl_names.specs.declared.directory.resolve.NameFault.TheVariants.{Unknown}
use Rattle.acl_nfs4.proofs.DomainLemmas.{found, resolved_here}
use Rattle.acl_nfs4.proofs.domain.NamesInDomainResolveNames.gid_written.Goals as goal

pub returns : goal.returns
returns c =
    let directory = c.args.self.now.directory.now in
    let id_of = gid_of directory in
    let is : c.ok_or.result ≡ or_fault Unknown (id_of_written id_of (view_written c.in_ok-written.written)) = search rules in
    is ∙ sym (resolved_here id_of directory.domain c.args.text.now ∙ ap (found id_of) c.in_ok-written.ensures.ok)

use Rattle.std.proofs.Common.{sym}
use Rattle.acl_names.specs.Directory.{gid_of}
use Rattle.acl_names.proofs.NamesLemmas.{decimal_front}
use Rattle.acl_names.proofs.directory.resolve.DirectoryResolveNames.gid_in_front.Goals as goal

pub returns : goal.returns
returns c =
    decimal_front (gid_of c.args.self.now) c.args.text.now c.in-Some.number c.in_ok-gid.gid c.in-Some.rest.now
    c.in-Some.ensures (sym c.in_ok-gid.ensures)

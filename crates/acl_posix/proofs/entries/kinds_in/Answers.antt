use Rattle.std.proofs.Common.{◌≡◌, rules}
use Rattle.acl_posix.specs.Kinds.{kinds_of}
use Rattle.acl_posix.proofs.KindLemmas.{kinds-lacks_required, kinds-lacks_mask}
use Rattle.acl_posix.proofs.entries.kinds_in.Goals as goal

pub returns : goal.returns
returns c =
    let is : c.kinds_of.result ≡ kinds_of c.args.entries.now = search rules in
    record { required = rw is (kinds-lacks_required c.args.entries.now); mask = rw is (kinds-lacks_mask c.args.entries.now) }

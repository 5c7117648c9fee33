use Rattle.std.proofs.Common.{◌≡◌, Err}
use Rattle.acl_names.proofs.StepLemmas.{handed_on}
use Rattle.acl_wire.specs.Posix.{acl_of, acl_of_entries}
use Rattle.acl_wire.specs.XattrReading.{entries_of}
use Rattle.acl_wire.proofs.GivesLemmas.{fails-then, gives-err}
use Rattle.acl_wire.proofs.posix.acl_of_xattr.Goals as goal

pub returns-in_err-read_xattr-clause-value : goal.returns-in_err-read_xattr-clause-value
unfolding acl_of
returns-in_err-read_xattr-clause-value c =
    let error = c.in_err-read_xattr.field-0.0 in
    let is : c.from_residual.result ≡ Err error = handed_on _ _ c.from_residual.ensures.1 in
    gives-err (λ acl. acl) c.from_residual.result error (acl_of c.args.bytes.now) is (fails-then error (entries_of c.args.bytes.now) acl_of_entries c.in_err-read_xattr.ensures.value)

pub returns-clause-value : goal.returns-clause-value
unfolding acl_of
returns-clause-value c = rw c.in_ok-read_xattr.ensures.value c.acl_of_entries.ensures.value

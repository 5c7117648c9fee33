use Rattle.std.proofs.Common.{Err, rules}
use Rattle.acl_names.specs.Pieces.{pieces}
use Rattle.acl_forms.specs.FormText.{entry_by}
use Rattle.acl_listings.specs.BlockLists.{nfs4_by}
use Rattle.acl_listings.specs.Faults.{ReadsAs, aces_fault}
use Rattle.acl_listings.proofs.ListsLemmas.{nfs4_read, nfs4_unread}
use Rattle.acl_listings.proofs.lists.read_freebsd.Goals as goal

pub returns-in_err-acl : goal.returns-in_err-acl
returns-in_err-acl g c =
    let said = entry_by (g.N.ResolveNames.names c.args.names.now) in
    let fault = c.in_err-acl.field-0.0 in
    let refused : ReadsAs (nfs4_by said (pieces c.args.list.now)) (Err (aces_fault fault)) = nfs4_unread said c.args.list.now fault c.in_err-acl.ensures.fault in
    search (rules, refused)

pub returns : goal.returns
returns g c = nfs4_read (entry_by (g.N.ResolveNames.names c.args.names.now)) c.args.list.now c.in_ok-acl.acl c.in_ok-acl.ensures.read

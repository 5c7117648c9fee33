use Rattle.std.proofs.Common.{Err, rules, sym}
use Rattle.acl_names.specs.Pieces.{pieces}
use Rattle.acl_posix.specs.AclText.{ReadsAs, acl_by, entries_fault, text_fault}
use Rattle.acl_posix.proofs.AclTextLemmas.{acl_of-invalid, acl_of-spelt, acl_of-unread}
use Rattle.acl_posix.proofs.acl_text.read_acl.Goals as goal

pub returns-in_err-entries-clause-value : goal.returns-in_err-entries-clause-value
returns-in_err-entries-clause-value g c =
    let fault = c.in_err-entries.field-0.0 in
    let unread : ReadsAs (acl_by (g.N.ResolveNames.names c.args.names.now) (pieces c.args.text.now)) (Err (text_fault fault)) = acl_of-unread (g.N.ResolveNames.names c.args.names.now) c.args.text.now fault c.in_err-entries.ensures.fault in
    search (rules, unread)

pub returns-in_err-new-clause-value : goal.returns-in_err-new-clause-value
returns-in_err-new-clause-value g c =
    let fault = c.in_err-new.field-0.0 in
    let invalid : ReadsAs (acl_by (g.N.ResolveNames.names c.args.names.now) (pieces c.args.text.now)) (Err (entries_fault fault)) =
    acl_of-invalid (g.N.ResolveNames.names c.args.names.now) c.args.text.now c.in_ok-entries.entries c.in_ok-entries.ensures.read fault c.in_err-new.ensures.err in
    search (rules, invalid)

pub returns-clause-value : goal.returns-clause-value
returns-clause-value g c =
    acl_of-spelt (g.N.ResolveNames.names c.args.names.now) c.args.text.now c.in_ok-new.field-0 (record {
      entries = c.in_ok-entries.entries;
      spelt = c.in_ok-entries.ensures.read;
      valid = c.in_ok-new.ensures.valid;
      in_order_is = sym c.in_ok-new.ensures.list;
    })

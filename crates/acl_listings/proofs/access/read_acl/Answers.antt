use Rattle.std.proofs.Common.{◌∙◌, None, Ok, Err, ap, rules, subst, sym}
use Rattle.acl_names.specs.Pieces.{pieces}
use Rattle.acl_listings.specs.Access.{acl_by}
use Rattle.acl_listings.specs.Faults.{ReadsAs, entries_fault, fault_of_entries}
use Rattle.acl_listings.specs.Rules.{missing_of}
use Rattle.acl_listings.proofs.AccessLemmas.{listed, unlisted, unread}
use Rattle.acl_listings.proofs.access.read_acl.Goals as goal

pub returns-in_err-entries : goal.returns-in_err-entries
returns-in_err-entries g c =
    let names = g.N.ResolveNames.names c.args.names.now in
    let fault = c.in_err-entries.field-0.0 in
    let refused : ReadsAs (acl_by names (pieces c.args.text.now)) (Err (entries_fault fault)) = unread names c.args.text.now fault c.in_err-entries.ensures.fault in
    search (rules, refused)

pub returns-in-Ok : goal.returns-in-Ok
returns-in-Ok g c =
    let entries = c.in_ok-entries.entries in
    listed (g.N.ResolveNames.names c.args.names.now) c.args.text.now entries None c.in_ok-entries.ensures.read (c.in-Ok.ensures.nothing_wrong.0 c.in-Ok.ensures.valid)
    ∙ ap Ok (sym c.in-Ok.ensures.list)

pub returns-in-Err : goal.returns-in-Err
returns-in-Err g c =
    let names = g.N.ResolveNames.names c.args.names.now in
    let fault = c.in-Err.fault in
    let refused : ReadsAs (acl_by names (pieces c.args.text.now)) (Err (fault_of_entries c.missing_of-missing.result fault)) =
    subst (λ rule. ReadsAs (acl_by names (pieces c.args.text.now)) (Err (fault_of_entries rule fault))) (ap missing_of (sym c.as_slice.ensures.value) ∙ sym c.missing_of-missing.ensures)
    (unlisted names c.args.text.now c.in_ok-entries.entries c.in_ok-entries.ensures.read fault c.in-Err.ensures.err) in
    search (rules, refused)

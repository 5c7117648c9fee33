use Rattle.std.proofs.Common.{◌∙◌, Err, rules, sym}
use Rattle.acl_listings.specs.Access.{posix_by}
use Rattle.acl_listings.specs.Faults.{ReadsAs}
use Rattle.acl_listings.proofs.AccessLemmas.{posix_alone, posix_alone_refused}
use Rattle.acl_listings.proofs.access.read_posix.Goals as goal

pub returns-in_err-access : goal.returns-in_err-access
returns-in_err-access g c =
    let names = g.N.ResolveNames.names c.args.names.now in
    let fault = c.in_err-access.field-0.0 in
    let refused : ReadsAs (posix_by names c.args.list.now) (Err fault) =
    posix_alone_refused names c.args.list.now fault (sym c.has_default.ensures ∙ c.if-not-has_default.true) c.in_err-access.ensures in
    search (rules, refused)

pub returns-then-not-has_default : goal.returns-then-not-has_default
returns-then-not-has_default g c =
    posix_alone (g.N.ResolveNames.names c.args.names.now) c.args.list.now c.in_ok-access.access
    (sym c.has_default.ensures ∙ c.if-not-has_default.true) c.in_ok-access.ensures

use Rattle.std.proofs.Common.{◌≡◌, subst}
use Rattle.acl_setup.specs.Opened.{ExplainsSetup, opened_by}
use Rattle.acl_setup.specs.Setup.{Setup}
use Rattle.acl_setup.specs.Shown.{setup_shown}
use Rattle.acl_setup.proofs.setup.open.Goals as goal

-- the table says the same when it is read again
pub returns-in-Err-clause-refused : goal.returns-in-Err-clause-refused
returns-in-Err-clause-refused c =
    let read = c.in_ok-read_table-in-Err.ensures in
    let same : setup_shown c.in_ok-read_table-in-Err.field-0 ≡ setup_shown c.args.setup = cc (c.requires, read) in
    subst (λ (shown : Setup). ExplainsSetup (opened_by shown) c.parts_error.result) same c.parts_error.ensures

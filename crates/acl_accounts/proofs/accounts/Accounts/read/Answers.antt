use Rattle.std.proofs.Common.{◌≡◌, arith, refl, rules, Ok}
use Rattle.acl_accounts.specs.Accounts.{rows_within}
use Rattle.acl_accounts.specs.Views.{view_rows}
use Rattle.acl_accounts.proofs.CutLemmas.{read_cut, read_uncut, rows_read}
use Rattle.acl_accounts.proofs.accounts.Accounts.read.Goals as goal

pub returns-in-Some-clause-fault : goal.returns-in-Some-clause-fault
returns-in-Some-clause-fault c = λ _.
    let rows = view_rows c.in_ok-rows.rows in
    let found = rw c.deref.ensures.value at c.in-Some.ensures in
    let cut = read_cut rows c.in_ok-accounts.accounts c.in_ok-rows.rows.groups.items c.in-Some.line c.in_ok-accounts.ensures refl found in
    rows_read c.args.text.now rows _ (omega arith) c.in_ok-rows.ensures.read cut

pub returns-clause-good : goal.returns-clause-good
returns-clause-good c =
    let rows = view_rows c.in_ok-rows.rows in
    let found = rw c.deref.ensures.value at c.in-None.ensures in
    let uncut = read_uncut rows c.in_ok-accounts.accounts c.in_ok-rows.rows.groups.items c.in_ok-accounts.ensures refl found in
    let read : rows_within c.args.text.now ≡ Ok rows = rows_read c.args.text.now rows (Ok rows) (omega arith) c.in_ok-rows.ensures.read uncut in
    rw read (search rules)

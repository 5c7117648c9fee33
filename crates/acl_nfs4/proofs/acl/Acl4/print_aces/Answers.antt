use Rattle.std.proofs.Common.{ap, arith, length, subst}
use Rattle.std.proofs.lemmas.Result.{err_from_is_err_and, on_ok_weaker}
use Rattle.acl_nfs4.specs.PrintedText.{HaveIds}
use Rattle.acl_nfs4.proofs.PrintedLengths.{lines_length}
use Rattle.acl_nfs4.proofs.RoundTrip.{aces_spelt}
use Rattle.acl_nfs4.proofs.acl.Acl4.print_aces.Goals as goal

pub returns-else-is_err-clause-read_again : goal.returns-else-is_err-clause-read_again
returns-else-is_err-clause-read_again c =
    on_ok_weaker c.push_lines-printed.result
    (λ have. aces_spelt c.args.directory.now c.names_read_back.ensures c.args.self.now c.aces-aces.ensures.aces
    (subst HaveIds c.aces-aces.ensures.value have))
    c.push_lines-printed.ensures.have_ids

pub returns-in_err-ask_for_lines-clause-room : goal.returns-in_err-ask_for_lines-clause-room
returns-in_err-ask_for_lines-clause-room c =
    let aces = c.args.self.now in
    let lines = lines_length c.args.directory.now aces in
    let count = ap length c.aces-aces.ensures.value in
    let p = err_from_is_err_and c.from_residual.result c.from_residual.ensures.1 in
    rw p.1 (omega (arith, lines, count, c.in_err-ask_for_lines.ensures.room))

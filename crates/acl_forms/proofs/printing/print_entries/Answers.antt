use Rattle.std.proofs.Common.{subst}
use Rattle.std.proofs.lemmas.Result.{on_ok_weaker}
use Rattle.acl_nfs4.specs.PrintedText.{HaveIds}
use Rattle.acl_forms.proofs.FormAgain.{entries_spelt}
use Rattle.acl_forms.proofs.printing.print_entries.Goals as goal

pub returns-else-is_err-clause-read_again : goal.returns-else-is_err-clause-read_again
returns-else-is_err-clause-read_again c =
    on_ok_weaker c.push_lines-printed.result
    (λ have. entries_spelt c.args.directory.now c.names_read_back.ensures c.args.places c.args.acl.now c.aces-aces.ensures.aces
    (subst HaveIds c.aces-aces.ensures.value have))
    c.push_lines-printed.ensures.have_ids

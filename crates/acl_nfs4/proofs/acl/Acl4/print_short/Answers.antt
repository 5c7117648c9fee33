use Rattle.std.proofs.Common.{subst}
use Rattle.std.proofs.lemmas.Result.{on_ok_weaker}
use Rattle.acl_nfs4.specs.PrintedText.{HaveIds}
use Rattle.acl_nfs4.proofs.NamedAgain.{short_spells}
use Rattle.acl_nfs4.proofs.acl.Acl4.print_short.Goals as goal

pub returns-else-is_err-clause-read_again : goal.returns-else-is_err-clause-read_again
returns-else-is_err-clause-read_again c =
    on_ok_weaker c.push_short_aces-printed.result
    (λ have known. short_spells known c.args.self.now c.aces.ensures.aces (subst HaveIds c.aces.ensures.value have))
    c.push_short_aces-printed.ensures.have_ids

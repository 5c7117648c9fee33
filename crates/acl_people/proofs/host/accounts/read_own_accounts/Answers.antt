use Rattle.std.proofs.Common.{◌≡◌, ◌≢◌, ◌∙◌, ◌∷◌, [], Err, IfSome, List, ℕ, subst, sym}
use Rattle.acl_accounts.specs.Accounts.{rows_within}
use Rattle.acl_accounts.specs.declared.fault.AccountsFault.TheVariants.{Memory}
use Rattle.acl_people.specs.Host.{groups_file, own_text, users_file}
use Rattle.acl_people.proofs.host.accounts.read_own_accounts.Goals as goal

pub returns-clause-refused : goal.returns-clause-refused
returns-clause-refused g c =
    let known = own_text (g.F.OpenFiles.bytes_of c.args.files.now) in
    let text = c.as_slice-in-Err.result.now in
    let same : c.as_slice.result.now ≡ text = c.as_slice.ensures.value ∙ sym c.as_slice-in-Err.ensures.value in
    let whole = subst (λ (text : List ℕ). IfSome known (λ those. text ≡ those)) (sym c.as_slice-in-Err.ensures.value) c.in_ok-text.ensures.whole in
    let fault = subst (λ (text : List ℕ). c.in-Err.fault ≢ Memory → rows_within text ≡ Err c.in-Err.fault) same c.in-Err.ensures.fault in
    c.failure_of.ensures known (users_file ∷ groups_file ∷ []) whole fault

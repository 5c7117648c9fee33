use Rattle.std.proofs.Common.{◌≡◌, ◌≢◌, ◌∙◌, ◌∷◌, [], Err, IfSome, List, ℕ, rules, subst, sym}
use Rattle.acl_accounts.specs.Accounts.{rows_within}
use Rattle.acl_accounts.specs.declared.fault.AccountsFault.TheVariants.{Memory}
use Rattle.acl_people.proofs.HostLemmas.{text_refusal}
use Rattle.acl_people.proofs.host.accounts.read_accounts.Goals as goal

pub returns-in_err-text-clause-refused : goal.returns-in_err-text-clause-refused
returns-in_err-text-clause-refused g c =
    let known = g.F.OpenFiles.bytes_of c.args.files.now c.args.name.now in
    let name = c.args.name.now in
    let is : c.from_residual.result ≡ Err c.in_err-text.field-0.0 = search rules in
    rw is (text_refusal known known name name (name ∷ []) (search rules) (λ long. long) c.in_err-text.field-0.0 c.in_err-text.ensures.refused)

pub returns-clause-refused : goal.returns-clause-refused
returns-clause-refused g c =
    let known = g.F.OpenFiles.bytes_of c.args.files.now c.args.name.now in
    let text = c.as_slice-in-Err.result.now in
    let same : c.as_slice.result.now ≡ text = c.as_slice.ensures.value ∙ sym c.as_slice-in-Err.ensures.value in
    let whole = subst (λ (text : List ℕ). IfSome known (λ those. text ≡ those)) (sym c.as_slice-in-Err.ensures.value) c.in_ok-text.ensures.whole in
    let fault = subst (λ (text : List ℕ). c.in-Err.fault ≢ Memory → rows_within text ≡ Err c.in-Err.fault) same c.in-Err.ensures.fault in
    c.failure_of.ensures known (c.args.name.now ∷ []) whole fault

use Rattle.std.proofs.Common.{rules, ◌≡◌, ◌∙◌, Bor, List, ℕ, bytes_eq, codes, count_by, sym}
use Rattle.acl_cli.proofs.SessionFileLemmas.{input_count-counts}
use Rattle.acl_cli.proofs.session_files.count_inputs.Goals as goal

pub returns : goal.returns
returns c =
    let counted : c.count.result ≡ count_by (λ (name : Bor (List ℕ)). bytes_eq name.now (codes "-")) c.args.names.now = search rules in
    counted ∙ sym (input_count-counts c.args.names.now)

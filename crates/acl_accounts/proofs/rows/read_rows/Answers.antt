use Rattle.std.proofs.Common.{◌≡◌, ◌≤◌, ◌+◌, ◌==◌, length, arith, rules}
use Rattle.std.specs.List.{count_by}
use Rattle.std.proofs.lemmas.List.Splits.{length-slice_split}
use Rattle.std.proofs.lemmas.List.Sums.{count_by-le-length}
use Rattle.acl_names.specs.Bytes.{newline}
use Rattle.acl_names.specs.Pieces.{parts}
use Rattle.acl_accounts.proofs.rows.read_rows.Goals as goal

pub loop-line-init : goal.loop-line-init
loop-line-init c =
    let text = c.args.text.now in
    let lines : length (parts newline text) ≡ count_by (λ byte. byte == newline) text + 1 = length-slice_split (λ byte. byte == newline) text in
    let few : count_by (λ byte. byte == newline) text ≤ length text = count_by-le-length (λ byte. byte == newline) text in
    record {
      rows = search rules;
      numbers = rw c.new-lines.ensures (omega (arith, lines, few));
    }

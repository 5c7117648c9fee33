use Rattle.std.proofs.Common.{◌≡◌, ◌∙◌, ◌++◌, [], sym, ap, arith, Some}
use Rattle.std.proofs.lemmas.List.{append-nil, nil_from_length}
use Rattle.acl_posix.specs.PermsText.{perms_of_text, three_letters}
use Rattle.acl_posix.proofs.ReadLemmas.{three_letters-read}
use Rattle.acl_posix.proofs.perms.read_perms.Goals as goal

pub returns-in-Some-default-empty-clause-value : goal.returns-in-Some-default-empty-clause-value
returns-in-Some-default-empty-clause-value c =
    let begins = c.in-Some-default-empty.ensures.begins in
    let three = three_letters begins.read begins.write begins.execute in
    let rest = c.in-Some-default-empty.field-0-1.now in
    let none : rest ≡ [] = nil_from_length rest (omega (arith, c.in-Some-default-empty.len_below)) in
    let whole : c.args.text.now ≡ three = begins.cut ∙ ap (λ r. three ++ r) none ∙ append-nil three in
    ap Some begins.says ∙ sym (ap perms_of_text whole ∙ three_letters-read begins.read begins.write begins.execute)

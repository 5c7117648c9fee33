use Rattle.std.proofs.Common.{◌≡◌, ◌∙◌, ap, lit<, rules}
use Rattle.std.proofs.lemmas.Iterator.Consumers.{YieldsList-end}
use Rattle.std.proofs.lemmas.Iterator.Splits.{YieldsList-from_str_split}
use Rattle.acl_names.specs.Bytes.{newline}
use Rattle.acl_names.specs.Pieces.{lines_of, without_empty_last}
use Rattle.acl_cli.proofs.words.words_of.Goals as goal

pub returns-clause-lines : goal.returns-clause-lines
returns-clause-lines c =
    let bytes_are : c.in_ok-text.text.now ≡ c.args.bytes.now = search rules in
    let all = YieldsList-end (YieldsList-from_str_split newline c.in_ok-text.text.now (lit< tt) (search rules)
    (search rules) (search rules)) c.loop-line.yielded _ c.loop-line.yielded_by _ _ c.in-None.is
    c.next.ensures.steps in
    c.drop_empty_last.ensures ∙ ap without_empty_last (c.loop-line.invariant ∙ all.0) ∙ ap lines_of bytes_are

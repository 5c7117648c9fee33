use Rattle.std.proofs.Common.{◌≡◌, ◌∙◌, ◌+◌, ◌<◌, ◌≤◌, Some, ap, arith, drop, false, get_or, length, map, sym, true}
use Rattle.std.specs.List.{find}
use Rattle.clap.specs.Words.{Text}
use Rattle.acl_cli.specs.Tips.{in_pairs, is_value}
use Rattle.acl_cli.proofs.TipLemmas.{pair_here, pair_more, pair_none}
use Rattle.acl_cli.proofs.tip.value_of_option.Goals as goal

pub returns-then-is_value : goal.returns-then-is_value
returns-then-is_value g c =
    let text = g.S.AsStr.text in
    let is = is_value c.args.known.now c.args.refused.now in
    let words = c.args.words.now in
    let before = c.loop-word.before.now in
    let place = c.loop-word.word-index in
    let word = c.word-item.result in
    let within : place < length words = omega (arith, c.loop-word-test.true) in
    let here : get_or words place word ≡ word = sym c.word-item.is in
    let value : is (before, text word) ≡ true = ap (λ value. is (before, value)) (sym c.as_str-text.ensures) ∙ sym c.is_value.ensures ∙ c.if-is_value.true in
    ap (λ value. Some (before, value)) c.as_str-text.ensures ∙ sym (c.loop-word.invariant.none ∙ pair_here text is words before place word within here value)

pub loop-word-preserved : goal.loop-word-preserved
loop-word-preserved g c =
    let text = g.S.AsStr.text in
    let is = is_value c.args.known.now c.args.refused.now in
    let words = c.args.words.now in
    let before = c.loop-word.before.now in
    let place = c.loop-word.word-index in
    let word = c.word-item.result in
    let within : place < length words = omega (arith, c.loop-word-test.true) in
    let here : get_or words place word ≡ word = sym c.word-item.is in
    let value : is (before, text word) ≡ false = ap (λ value. is (before, value)) (sym c.as_str-text.ensures) ∙ sym c.is_value.ensures ∙ c.if-is_value.false in
    record {
      text = c.as_str-text.utf8;
      none = c.loop-word.invariant.none ∙ pair_more text is words before place word within here value
          ∙ ap (λ (before : Text). find is (in_pairs before (map text (drop (place + 1) words)))) (sym c.as_str-text.ensures);
    }

pub returns : goal.returns
returns g c =
    let text = g.S.AsStr.text in
    let is = is_value c.args.known.now c.args.refused.now in
    let words = c.args.words.now in
    let past : length words ≤ c.loop-word.word-index = omega (arith, c.loop-word-test.false) in
    sym (c.loop-word.invariant.none ∙ pair_none text is words c.loop-word.before.now c.loop-word.word-index past)

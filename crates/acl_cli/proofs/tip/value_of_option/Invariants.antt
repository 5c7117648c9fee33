use Rattle.std.proofs.Common.{◌≡◌, drop, map}
use Rattle.std.specs.List.{find}
use Rattle.acl_cli.specs.Tips.{in_pairs, is_value, value_of_option}
use Rattle.acl_cli.proofs.tip.value_of_option.Given as goal
use denote.Shadow.{shadow}
use denote.Text.{Utf8}

-- none of the words so far is such a value
abbrev pub invariant-loop-word : goal.invariant-loop-word
invariant-loop-word g l = record {
  text : shadow (Utf8 l.before);
  none : value_of_option l.known l.refused (map g.S.AsStr.text l.words) ≡ find (is_value l.known l.refused) (in_pairs l.before (map g.S.AsStr.text (drop l.word-index l.words)));
}

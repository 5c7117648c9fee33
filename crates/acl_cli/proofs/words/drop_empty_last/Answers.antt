use Rattle.std.proofs.Common.{◌≡◌, ◌∙◌, ◌-◌, ◌<◌, length, take, get_or, map, ap, rules, string_bytes}
use Rattle.acl_cli.proofs.LineLemmas.{without_empty_last-gone, without_empty_last-kept}
use Rattle.acl_cli.proofs.words.drop_empty_last.Goals as goal

pub returns-in-Some : goal.returns-in-Some
returns-in-Some c =
    let words = c.args.words.now.items in
    let some : 0 < length words = search rules in
    let is_last : c.in-Some.last.now ≡ get_or words (length words - 1) c.in-Some.last.now = search rules in
    let front : c.pop.new.self.items ≡ take (length words - 1) words = search rules in
    ap (map string_bytes) front ∙ without_empty_last-gone string_bytes words c.in-Some.last.now some is_last (search rules)

pub returns-else-is_empty : goal.returns-else-is_empty
returns-else-is_empty c =
    let words = c.args.words.now.items in
    let some : 0 < length words = search rules in
    let is_last : c.in-Some.last.now ≡ get_or words (length words - 1) c.in-Some.last.now = search rules in
    without_empty_last-kept string_bytes words c.in-Some.last.now some is_last (search rules)

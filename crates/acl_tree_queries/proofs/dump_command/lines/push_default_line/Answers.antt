use Rattle.std.proofs.Common.{rules, ◌≡◌, ◌<◌, ◌+◌, ℕ, length, Some, subst}
use Rattle.acl_tree.specs.declared.request.Request.TheVariants.{SetDefault}
use Rattle.acl_lang.specs.declared.limits.TheConstants.{MAX_LINE_LEN}
use Rattle.acl_tree_queries.proofs.DumpLemmas.{long_line, refused_weaker}
use Rattle.acl_tree_queries.proofs.dump_command.lines.push_default_line.Goals as goal

pub returns-clause-refused : goal.returns-clause-refused
returns-clause-refused c =
    let old = c.args.out.now.items in
    let command = c.push_default.new.out.items in
    let start : c.len-start.result ≡ length old = search rules in
    refused_weaker c.end_line.result _ _
    (λ long. long_line (SetDefault c.args.path.now (Some c.args.default.now)) old command c.in_ok-push_default.ensures.text (subst (λ (n : ℕ). n + MAX_LINE_LEN < length command) start long))
    c.end_line.ensures.refused

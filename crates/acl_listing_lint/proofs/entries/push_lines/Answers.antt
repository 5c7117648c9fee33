use Rattle.std.proofs.Common.{◌∙◌, ◌++◌, [], ap, append_assoc, append-nil, subst, sym}
use Rattle.acl_names.specs.Bytes.{newline}
use Rattle.acl_names.specs.Pieces.{parts}
use Rattle.acl_listing_lint.specs.Findings.{AreFoundFrom, IsFoundInLine, LintAsking}
use Rattle.acl_listing_lint.specs.LintSteps.{view_lists}
use Rattle.acl_listing_lint.proofs.FoundLemmas.{numbered_all, numbered_more}
use Rattle.acl_listing_lint.proofs.entries.push_lines.Goals as goal

pub loop-line-init : goal.loop-line-init
loop-line-init c =
    let asking : LintAsking = record { name = c.args.name.now; host = c.args.host.now } in
    let Is = IsFoundInLine asking (view_lists c.args.listed.now) in
    record {
      so_far = [];
      out_is = sym (append-nil c.args.out.now.items);
      leads = λ rest are. subst (λ all. AreFoundFrom Is c.args.first all rest) c.new-lines.ensures are;
    }

pub loop-line-preserved : goal.loop-line-preserved
loop-line-preserved c =
    let asking : LintAsking = record { name = c.args.name.now; host = c.args.host.now } in
    let Is = IsFoundInLine asking (view_lists c.args.listed.now) in
    let was = c.loop-line.invariant in
    let added = c.in_ok-push_line.ensures.found in
    let lines = parts newline c.args.list.now in
    let more = numbered_more Is c.args.first lines c.loop-line.number c.loop-line.lines c.next.new.self c.in-Some.line.now was.so_far added.text c.in-Some.ensures.part added.is was.leads in
    record {
      so_far = was.so_far ++ added.text;
      out_is = added.out_is ∙ ap (λ out. out ++ added.text) was.out_is ∙ append_assoc c.args.out.now.items was.so_far added.text;
      leads = λ rest are. more rest (subst (λ number. AreFoundFrom Is number c.next.new.self rest) c.in_ok-number.ensures.is are);
    }

pub returns-clause-found : goal.returns-clause-found
returns-clause-found c =
    let asking : LintAsking = record { name = c.args.name.now; host = c.args.host.now } in
    let Is = IsFoundInLine asking (view_lists c.args.listed.now) in
    let was = c.loop-line.invariant in
    record {
      text = was.so_far;
      is = numbered_all Is c.args.first (parts newline c.args.list.now) c.loop-line.number c.loop-line.lines was.so_far c.in_default.ensures.part was.leads;
      out_is = was.out_is;
    }

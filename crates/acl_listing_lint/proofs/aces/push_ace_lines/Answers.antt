use Rattle.std.proofs.Common.{◌∙◌, ◌++◌, ◌+◌, ℕ, List, [], ap, append_assoc, append-nil, subst, sym}
use Rattle.acl_names.specs.Bytes.{newline}
use Rattle.acl_names.specs.Pieces.{parts}
use Rattle.acl_listing_lint.specs.Findings.{AceList, AreFoundInAceLines}
use Rattle.acl_listing_lint.specs.LintSteps.{view_aces}
use Rattle.acl_listing_lint.proofs.FoundLemmas.{ace_lines_all, ace_lines_more}
use Rattle.acl_listing_lint.proofs.aces.push_ace_lines.Goals as goal

pub loop-line-init : goal.loop-line-init
loop-line-init c =
    let list : AceList = view_aces c.args.listed.now in
    record {
      so_far = [];
      out_is = sym (append-nil c.args.out.now.items);
      leads = λ rest are. subst (λ all. AreFoundInAceLines c.args.name.now list c.args.first 0 all rest) c.new-lines.ensures are;
    }

pub loop-line-preserved : goal.loop-line-preserved
loop-line-preserved c =
    let name : List ℕ = c.args.name.now in
    let list : AceList = view_aces c.args.listed.now in
    let was = c.loop-line.invariant in
    let added = c.in_ok-place.ensures.found in
    let more = ace_lines_more name list c.args.first (parts newline c.args.list.now) c.loop-line.number c.loop-line.place c.loop-line.lines c.next.new.self c.in-Some.line.now was.so_far added.text
    c.in-Some.ensures.part added.is was.leads in
    record {
      so_far = was.so_far ++ added.text;
      out_is = added.out_is ∙ ap (λ out. out ++ added.text) was.out_is ∙ append_assoc c.args.out.now.items was.so_far added.text;
      leads = λ rest are. more rest (subst (λ (place : ℕ). AreFoundInAceLines name list (c.loop-line.number + 1) place c.next.new.self rest) c.in_ok-place.ensures.behind
          (subst (λ (number : ℕ). AreFoundInAceLines name list number c.in_ok-place.place c.next.new.self rest) c.in_ok-number.ensures.is are));
    }

pub returns-clause-found : goal.returns-clause-found
returns-clause-found c =
    let was = c.loop-line.invariant in
    record {
      text = was.so_far;
      is = ace_lines_all c.args.name.now (view_aces c.args.listed.now) c.args.first (parts newline c.args.list.now) c.loop-line.number c.loop-line.place c.loop-line.lines was.so_far
          c.in_default.ensures.part was.leads;
      out_is = was.out_is;
    }

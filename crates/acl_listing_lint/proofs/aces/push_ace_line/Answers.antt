use Rattle.std.proofs.Common.{◌∙◌, ◌++◌, ◌+◌, ℕ, List, [], ap, append_assoc, append-nil, arith, length, subst, sym}
use Rattle.acl_names.specs.Pieces.{pieces}
use Rattle.acl_listing_lint.specs.Findings.{AreFoundFrom, IsFoundOfAcePiece}
use Rattle.acl_listing_lint.specs.LintSteps.{view_aces}
use Rattle.acl_listing_lint.proofs.FoundLemmas.{numbered_all, numbered_more}
use Rattle.acl_listing_lint.proofs.aces.push_ace_line.Goals as goal

pub loop-piece-init : goal.loop-piece-init
loop-piece-init c =
    let Is = IsFoundOfAcePiece c.args.name.now (view_aces c.args.listed.now) c.args.line in
    record {
      so_far = [];
      out_is = sym (append-nil c.args.out.now.items);
      leads = λ rest are. subst (λ all. AreFoundFrom Is c.args.place all rest) c.new-pieces.ensures are;
      count = ap (λ (all : List (List ℕ)). c.args.place + length all) c.new-pieces.ensures;
    }

pub loop-piece-preserved : goal.loop-piece-preserved
loop-piece-preserved c =
    let Is = IsFoundOfAcePiece c.args.name.now (view_aces c.args.listed.now) c.args.line in
    let was = c.loop-piece.invariant in
    let added = c.in_ok-push_at_place.ensures in
    let more = numbered_more Is c.args.place (pieces c.args.said.now) c.loop-piece.at c.loop-piece.pieces c.next.new.self c.in-Some.piece.now was.so_far added.text c.in-Some.ensures.piece added.is was.leads in
    record {
      so_far = was.so_far ++ added.text;
      out_is = added.out_is ∙ ap (λ out. out ++ added.text) was.out_is ∙ append_assoc c.args.out.now.items was.so_far added.text;
      leads = λ rest are. more rest (subst (λ at. AreFoundFrom Is at c.next.new.self rest) c.in_ok-at.ensures.is are);
      count = omega (arith, was.count, ap length c.in-Some.ensures.piece, c.in_ok-at.ensures.is);
    }

pub returns-clause-found : goal.returns-clause-found
returns-clause-found c =
    let Is = IsFoundOfAcePiece c.args.name.now (view_aces c.args.listed.now) c.args.line in
    let was = c.loop-piece.invariant in
    record {
      text = was.so_far;
      is = numbered_all Is c.args.place (pieces c.args.said.now) c.loop-piece.at c.loop-piece.pieces was.so_far c.in_default.ensures.piece was.leads;
      out_is = was.out_is;
    }

pub returns-clause-behind : goal.returns-clause-behind
returns-clause-behind c =
    let was = c.loop-piece.invariant in
    omega (arith, was.count, ap length c.in_default.ensures.piece)

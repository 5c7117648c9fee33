use Rattle.std.proofs.Common.{◌∙◌, ◌++◌, ℕ, List, [], ap, append_assoc, append-nil, subst, sym}
use Rattle.acl_names.specs.Pieces.{pieces}
use Rattle.acl_people.specs.Host.{names_of_host}
use Rattle.acl_posix.specs.EntryText.{entry_by}
use Rattle.acl_listing_lint.specs.Findings.{AreFound, IsFoundOfPiece, IsFoundOfRead, LintAsking, PosixList}
use Rattle.acl_listing_lint.specs.LintSteps.{view_list}
use Rattle.acl_listing_lint.proofs.FoundLemmas.{found_all, found_more}
use Rattle.acl_listing_lint.proofs.entries.push_said.Goals as goal

pub loop-piece-init : goal.loop-piece-init
loop-piece-init c =
    let asking : LintAsking = record { name = c.args.name.now; host = c.args.host.now } in
    let Is = IsFoundOfPiece asking (view_list c.args.listed.now) c.args.line in
    record {
      so_far = [];
      out_is = sym (append-nil c.args.out.now.items);
      leads = λ rest are. subst (λ all. AreFound Is all rest) c.new-pieces.ensures are;
    }

pub loop-piece-preserved : goal.loop-piece-preserved
loop-piece-preserved c =
    let asking : LintAsking = record { name = c.args.name.now; host = c.args.host.now } in
    let list : PosixList = view_list c.args.listed.now in
    let Is = IsFoundOfPiece asking list c.args.line in
    let was = c.loop-piece.invariant in
    let added = c.in_ok-push_piece.ensures.found in
    let piece : List ℕ = c.in-Some.piece.now in
    let is = subst (λ (before : List ℕ). IsFoundOfRead list (record { name = c.args.name.now; line = c.args.line; before = before; piece = piece })
    (entry_by (names_of_host c.args.host.now) piece) added.text) c.word-before.ensures added.is in
    record {
      so_far = was.so_far ++ added.text;
      out_is = added.out_is ∙ ap (λ out. out ++ added.text) was.out_is ∙ append_assoc c.args.out.now.items was.so_far added.text;
      leads = found_more Is (pieces c.args.said.now) c.loop-piece.pieces c.next.new.self piece was.so_far added.text c.in-Some.ensures.piece is was.leads;
    }

pub returns : goal.returns
returns c =
    let asking : LintAsking = record { name = c.args.name.now; host = c.args.host.now } in
    let Is = IsFoundOfPiece asking (view_list c.args.listed.now) c.args.line in
    let was = c.loop-piece.invariant in
    record {
      found = record {
        text = was.so_far;
        is = found_all Is (pieces c.args.said.now) c.loop-piece.pieces was.so_far c.in_default.ensures.piece was.leads;
        out_is = was.out_is;
      };
    }

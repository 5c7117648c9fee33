use Rattle.std.proofs.Common.{◌∙◌, ◌++◌, ◌∷◌, [], List, ℕ, ap, append_assoc, sym, take}
use Rattle.acl_names.specs.Bytes.{newline}
use Rattle.acl_names.proofs.TakeLemmas.{All-take-next, flat_map-take-next}
use Rattle.acl_nfs4.specs.Ace.{Nfsace4}
use Rattle.acl_nfs4.specs.PrintedText.{short_ace}
use Rattle.acl_nfs4.specs.Who.{HasId}
use Rattle.acl_listings.specs.Nfs4Block.{aces_lines}
use Rattle.acl_listings.proofs.printing.push_aces.Goals as goal

pub loop-ace-preserved : goal.loop-ace-preserved
loop-ace-preserved c =
    let aces = c.args.aces.now in
    let i = c.loop-ace.ace-index in
    let ace = c.ace-item.result in
    let so_far = c.loop-ace.invariant in
    let front = c.args.out.now.items in
    let line = λ (ace : Nfsace4). short_ace ace ++ newline ∷ [] in
    record {
      text =
          c.in_ok-push_ace.ensures.text
          ∙ ap (λ (xs : List ℕ). xs ++ line ace) so_far.text
          ∙ append_assoc front (aces_lines short_ace (take i aces)) (line ace)
          ∙ ap (λ (xs : List ℕ). front ++ xs) (sym (flat_map-take-next line aces i ace c.loop-ace-test.true c.ace-item.is));
      have_ids = All-take-next (λ (ace : Nfsace4). HasId ace.who) aces i ace c.loop-ace-test.true c.ace-item.is so_far.have_ids c.in_ok-push_ace.ensures.has_id;
    }

use Rattle.std.proofs.Common.{◌≡◌, ◌∙◌, sym, ap, Ok}
use Rattle.acl_names.specs.Directory.{requester_of}
use Rattle.acl_nfs4.specs.Evaluation.{grants4}
use Rattle.acl_nfs4.specs.Mask.{mask_bits}
use Rattle.acl_tree.specs.Commands.{granted_or_denied, node_at}
use Rattle.acl_tree.specs.NodeAcls.{nfs4_list}
use Rattle.acl_tree.specs.Steps.{◌>>=◌}
use Rattle.acl_tree.proofs.tree.Tree.check4.Goals as goal

pub returns : goal.returns
returns c =
    let node = c.in_ok-node.node.now in
    let who = requester_of c.args.directory.now c.args.uid in
    let asks : c.requester_or_stranger-requester.result.now ≡ who = c.requester_or_stranger-requester.ensures
    ∙ ap (λ identity. requester_of c.args.directory.now identity.uid) c.new-stranger.ensures in
    let found : node_at c.args.self.now c.args.path.now ≡ Ok node = rw c.as_bytes.ensures.value at c.in_ok-node.ensures in
    ap Ok (c.granted_or_denied.ensures ∙ ap granted_or_denied (rw asks at c.grants4.ensures.test))
    ∙ sym (ap (λ outcome. outcome >>= (λ node. nfs4_list node.acl >>= (λ acl. Ok (granted_or_denied (grants4 acl node.owner node.group who (mask_bits c.args.mask)))))) found
    ∙ ap (λ lists. nfs4_list lists >>= (λ acl. Ok (granted_or_denied (grants4 acl node.owner node.group who (mask_bits c.args.mask))))) c.in-Nfs4.is)

use Rattle.std.proofs.Common.{◌∙◌, ap₂, arith}
use Rattle.acl_listings.specs.Way.{steps_behind, steps_of}
use Rattle.acl_listings.proofs.SharedLemmas.{rest-from, shared-front}
use Rattle.acl_listings.proofs.shared.behind_shared.Goals as goal

pub returns : goal.returns
returns c =
    let one = c.args.one.now in
    let other = c.args.other.now in
    let n = c.up_to_slash-shared.result in
    let alike = c.alike_bytes.ensures in
    ap₂ (λ one other. steps_behind (steps_of one) (steps_of other)) (rest-from one n) (rest-from other n)
    ∙ shared-front one other n c.alike_bytes.result c.up_to_slash-shared.ensures.bound alike.alike (omega (arith, alike.first, c.up_to_slash-shared.ensures.bound)) c.up_to_slash-shared.ensures.slash

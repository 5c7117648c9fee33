use Rattle.std.proofs.Common.{rules, ◌≡◌, ◌∙◌, ◌++◌, ◌∷◌, ◌<◌, [], ap₂, arith, get_or, length, sym}
use Rattle.acl_listings.proofs.SharedLemmas.{at-byte}
use Rattle.acl_listings.proofs.shared.alike_bytes.Goals as goal

pub loop-alike-preserved : goal.loop-alike-preserved
loop-alike-preserved c =
    let n = c.loop-alike.alike in
    let one = c.args.one.now in
    let other = c.args.other.now in
    let was = c.loop-alike.invariant in
    let first : n < length one = search rules in
    let second : n < length other = search rules in
    let same : get_or one n 0 ≡ get_or other n 0 = search rules in
    record {
      alike = at-byte one n first ∙ ap₂ (λ front byte. front ++ byte ∷ []) was.alike same ∙ sym (at-byte other n second);
      first = omega (arith, first);
      second = omega (arith, second);
    }

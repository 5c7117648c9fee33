use Rattle.std.proofs.Common.{◌≡◌, ◌∙◌, ◌+◌, ◌-◌, ℕ, List, ◌++◌, length, replicate, take, drop, ap}
use Rattle.acl_wire.specs.Xdr.{padded}
use Rattle.acl_wire.proofs.EntryLemmas.{filled_in, head_of}
use Rattle.acl_wire.proofs.xdr_entry.fill.Goals as goal

pub returns : goal.returns
returns c =
    let text = c.args.text.now in
    let old = c.args.out.now in
    let zeros : c.zeros.result.now ≡ replicate (padded (length text) - length text) 0 = c.zeros.ensures ∙ ap (λ (n : ℕ). replicate n 0) c.lacking.ensures.value in
    let head : c.put_at.new.out ≡ head_of c.args.raw.now text ++ drop 16 old = c.put_at.ensures ∙ ap (λ (h : List ℕ). take 0 old ++ (h ++ drop (0 + length h) old)) c.head.ensures in
    filled_in c.args.raw.now text c.zeros.result.now old c.put_at.new.out c.put_at-2.new.out c.put_at-3.new.out zeros head c.put_at-2.ensures c.put_at-3.ensures
